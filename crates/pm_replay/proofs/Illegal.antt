-- A text has one first line that may not stand there, or is a legal journal's.
use Rattle.std.proofs.Common.{ℕ, ◌+◌, ◌*◌, ◌<◌, ◌≤◌, ◌≡◌, ◌≢◌, ◌∙◌, Bool, true, false, List, [], ◌∷◌, ◌++◌, Some, None, ap, ap₂, sym, subst, refl, arith, length, append_assoc, append-nil, length-append}
use Rattle.std.proofs.lemmas.Bool.{and_parts}
use Rattle.std.proofs.lemmas.List.Concat.{flat_map-append, flat_map-cons}
use Rattle.std.specs.List.{AllByRecursion}
use Rattle.pm_base.specs.declared.run.Event.{Event}
use Rattle.pm_base.specs.declared.run.Event.TheVariants.{Commit, Deliver}
use Rattle.pm_base.specs.declared.stamp.Line.TheVariants.{At, End}
use Rattle.pm_history.specs.Journals.{IsWritable, event_line, journal_text}
use Rattle.pm_history.proofs.Lines.{event_whole}
use Rattle.pm_history.proofs.Texts.{line_begins}
use Rattle.pm_history.specs.Scans.{event_at}
use Rattle.pm_plan.specs.declared.plan.Plan.{Plan}
use Rattle.pm_sim.specs.Worlds.{World, after_event, after_events, first_world, is_legal, is_legal_run}
use Rattle.pm_replay.specs.Replays.{IsFirstIllegal, IsLegalText}

-- ---- lines

pub not_empty : (e : Event) (rest : List ℕ) → event_line e ++ rest ≢ []
not_empty e rest h = omega (arith, line_begins e, length-append (event_line e) rest, ap length h)

pub text_cons : (e : Event) (es : List Event) (rest : List ℕ)
    → journal_text (e ∷ es) ++ rest ≡ event_line e ++ (journal_text es ++ rest)
text_cons e es rest = ap (λ t. t ++ rest) (flat_map-cons event_line e es)
    ∙ append_assoc (event_line e) (journal_text es) rest

-- a text begins with one event's line
record Same (e f : Event) (s t : List ℕ) : Type 0 where
  event : e ≡ f
  rest : s ≡ t

same_line : (e f : Event) (s t : List ℕ) → IsWritable e → IsWritable f → event_line e ++ s ≡ event_line f ++ t
    → Same e f s t
same_line e f s t w v h =
    let both : Some (e, s) ≡ Some (f, t) = sym (event_whole e s w) ∙ (ap event_at h ∙ event_whole f t v) in
    let pair : (e, s) ≡ (f, t) = cc in
    record { event = ap (λ (x : Event × List ℕ). x.0) pair; rest = ap (λ (x : Event × List ℕ). x.1) pair }

pub same_event : (e f : Event) (s t : List ℕ) → IsWritable e → IsWritable f
    → event_line e ++ s ≡ event_line f ++ t → e ≡ f
same_event e f s t w v h = (same_line e f s t w v h).event

-- ---- from a world on

-- no event whose line begins the rest is legal
abbrev pub NoneLegal : Plan → World → List ℕ → Type 0
NoneLegal p w rest = (e : Event) (after : List ℕ) → IsWritable e → rest ≡ event_line e ++ after
    → is_legal p w e ≡ false

legal_head : (p : Plan) (w : World) (e : Event) (es : List Event) → is_legal_run p w (e ∷ es) ≡ true
    → is_legal p w e ≡ true
legal_head p w e es l = (and_parts (is_legal p w e) (is_legal_run p (after_event p w e) es) l).0

legal_tail : (p : Plan) (w : World) (e f : Event) (es : List Event) → e ≡ f → is_legal_run p w (f ∷ es) ≡ true
    → is_legal_run p (after_event p w e) es ≡ true
legal_tail p w e f es s l = subst (λ z. is_legal_run p (after_event p w z) es ≡ true) (sym s)
    (and_parts (is_legal p w f) (is_legal_run p (after_event p w f) es) l).1

clash : (p : Plan) (w : World) (e : Event) → is_legal p w e ≡ false → is_legal p w e ≡ true → ⊥
clash p w e f t = (let g : false ≡ true = sym f ∙ t in cc)

no_legal : (p : Plan) (w : World) (b k : List Event) (rest : List ℕ)
    → AllByRecursion IsWritable b → AllByRecursion IsWritable k
    → is_legal_run p w k ≡ true → rest ≢ [] → NoneLegal p (after_events p w b) rest
    → journal_text b ++ rest ≢ journal_text k
no_legal p w [] [] rest x y l more none h = more h
no_legal p w [] (f ∷ k) rest x y l more none h =
    clash p w f (none f (journal_text k) y.0 (h ∙ flat_map-cons event_line f k)) (legal_head p w f k l)
no_legal p w (e ∷ b) [] rest x y l more none h =
    not_empty e (journal_text b ++ rest) (sym (text_cons e b rest) ∙ h)
no_legal p w (e ∷ b) (f ∷ k) rest x y l more none h =
    let s = same_line e f (journal_text b ++ rest) (journal_text k) x.0 y.0
    (sym (text_cons e b rest) ∙ (h ∙ flat_map-cons event_line f k)) in
    no_legal p (after_event p w e) b k rest x.1 y.1 (legal_tail p w e f k s.event l) more none s.rest

as_many : (p : Plan) (w : World) (b c : List Event) (s t : List ℕ)
    → AllByRecursion IsWritable b → AllByRecursion IsWritable c
    → is_legal_run p w b ≡ true → is_legal_run p w c ≡ true
    → NoneLegal p (after_events p w b) s → NoneLegal p (after_events p w c) t
    → journal_text b ++ s ≡ journal_text c ++ t → length b ≡ length c
as_many p w [] [] s t x y l m f g h = refl
as_many p w [] (d ∷ c) s t x y l m f g h = absurd (clash p w d
    (f d (journal_text c ++ t) y.0 (h ∙ text_cons d c t)) (legal_head p w d c m))
as_many p w (e ∷ b) [] s t x y l m f g h = absurd (clash p w e
    (g e (journal_text b ++ s) x.0 (sym h ∙ text_cons e b s)) (legal_head p w e b l))
as_many p w (e ∷ b) (d ∷ c) s t x y l m f g h =
    let q = same_line e d (journal_text b ++ s) (journal_text c ++ t) x.0 y.0
    (sym (text_cons e b s) ∙ (h ∙ text_cons d c t)) in
    let again = as_many p (after_event p w e) b c s t x.1 y.1 (legal_tail p w e e b refl l)
    (legal_tail p w e d c q.event m) f
    (subst (λ z. NoneLegal p (after_events p (after_event p w z) c) t) (sym q.event) g) q.rest in
    omega (arith, again)

-- ---- the laws

pub no_journal : (p : Plan) (n : ℕ) (bytes : List ℕ) (j : List Event) → IsFirstIllegal p n bytes
    → IsLegalText p j bytes → ⊥
no_journal p n bytes j first legal =
    no_legal p (first_world p) first.before j first.rest first.written legal.written legal.legal first.more
    first.illegal (sym first.cut ∙ legal.text)

pub one_first : (p : Plan) (n m : ℕ) (bytes : List ℕ) → IsFirstIllegal p n bytes → IsFirstIllegal p m bytes → n ≡ m
one_first p n m bytes f g =
    omega (
      arith,
      f.number,
      g.number,
      as_many p (first_world p) f.before g.before f.rest g.rest f.written g.written f.legal g.legal f.illegal g.illegal
          (sym f.cut ∙ g.cut),
    )

-- a journal has at most as many events as a fifth of its text's bytes
line_long : (e : Event) → 5 ≤ length (event_line e)
line_long (Deliver to from) = omega arith
line_long (Commit (At s)) = omega arith
line_long (Commit End) = omega arith

pub text_long : (j : List Event) → 5 * length j ≤ length (journal_text j)
text_long [] = omega arith
text_long (e ∷ j) =
    let a = text_long j in
    let b = line_long e in
    let c : length (journal_text (e ∷ j)) ≡ length (event_line e) + length (journal_text j) =
    ap length (flat_map-cons event_line e j) ∙ length-append (event_line e) (journal_text j) in
    omega arith
