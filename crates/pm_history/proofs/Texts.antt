-- Journals have different texts, and a text has one first faulty line.
use Rattle.std.proofs.Common.{◌≡◌, ◌≢◌, ◌∙◌, refl, sym, ap, ap₂, arith, ℕ, ◌+◌, ◌<◌, List, [], ◌∷◌, ◌++◌, length, Some, ◌≤◌, append_assoc, append-nil, length-append, None}
use Rattle.std.specs.List.{AllByRecursion}
use Rattle.std.proofs.lemmas.List.Concat.{flat_map-append, flat_map-cons}
use Rattle.pm_base.specs.declared.run.Event.{Event}
use Rattle.pm_base.specs.declared.run.Event.TheVariants.{Deliver, Commit}
use Rattle.pm_base.specs.declared.stamp.Line.TheVariants.{At, End}
use Rattle.pm_history.specs.Journals.{IsFirstFault, IsWritable, event_line, journal_text}
use Rattle.pm_history.specs.Scans.{event_at}
use Rattle.pm_history.proofs.Lines.{event_sound, event_whole}
use Rattle.pm_history.proofs.Numbers.{none_some, some_same}

-- an event's line has a byte
pub line_begins : (e : Event) → 0 < length (event_line e)
line_begins (Deliver to from) = omega arith
line_begins (Commit (At s)) = omega arith
line_begins (Commit End) = omega arith

line_is_there : (e : Event) (rest : List ℕ) → event_line e ++ rest ≢ []
line_is_there e rest h = omega (arith, line_begins e, length-append (event_line e) rest, ap length h)

first_line : (e : Event) (es : List Event) (rest : List ℕ) → journal_text (e ∷ es) ++ rest ≡ event_line e
    ++ (journal_text es ++ rest)
first_line e es rest = ap (λ t. t ++ rest) (flat_map-cons event_line e es) ∙ append_assoc (event_line e)
    (journal_text es) rest

-- a text begins with one event's line
record Same (e f : Event) (s t : List ℕ) : Type 0 where
  event : e ≡ f
  rest : s ≡ t

same_line : (e f : Event) (s t : List ℕ) → IsWritable e → IsWritable f → event_line e ++ s ≡ event_line f ++ t
    → Same e f s t
same_line e f s t w v h =
    let both : (e, s) ≡ (f, t) = some_same _ _ (sym (event_whole e s w) ∙ ap event_at h ∙ event_whole f t v) in
    record { event = ap (λ (x : Event × List ℕ). x.0) both; rest = ap (λ (x : Event × List ℕ). x.1) both }

-- no event's line begins the text
abbrev pub IsFaulty : List ℕ → Type 0
IsFaulty rest = (e : Event) (after : List ℕ) → IsWritable e → rest ≢ event_line e ++ after

pub same_journal : (j k : List Event) → AllByRecursion IsWritable j → AllByRecursion IsWritable k → journal_text j
    ≡ journal_text k → j ≡ k
same_journal [] [] w v h = refl
same_journal [] (f ∷ k) w v h = absurd (line_is_there f (journal_text k) (sym (flat_map-cons event_line f k) ∙ sym h))
same_journal (e ∷ j) [] w v h = absurd (line_is_there e (journal_text j) (sym (flat_map-cons event_line e j) ∙ h))
same_journal (e ∷ j) (f ∷ k) w v h =
    let s = same_line e f (journal_text j) (journal_text k) w.0 v.0 (sym (flat_map-cons event_line e j) ∙ h
    ∙ flat_map-cons event_line f k) in
    ap₂ (λ (x : Event) (xs : List Event). x ∷ xs) s.event (same_journal j k w.1 v.1 s.rest)

no_text : (before j : List Event) (rest : List ℕ) → AllByRecursion IsWritable before → AllByRecursion IsWritable j
    → rest ≢ [] → IsFaulty rest
    → journal_text before ++ rest ≢ journal_text j
no_text [] [] rest w v more faulty h = more h
no_text [] (f ∷ k) rest w v more faulty h = faulty f (journal_text k) v.0 (h ∙ flat_map-cons event_line f k)
no_text (e ∷ es) [] rest w v more faulty h = line_is_there e (journal_text es ++ rest) (sym (first_line e es rest) ∙ h)
no_text (e ∷ es) (f ∷ k) rest w v more faulty h =
    let s = same_line e f (journal_text es ++ rest) (journal_text k) w.0 v.0 (sym (first_line e es rest) ∙ h
    ∙ flat_map-cons event_line f k) in
    no_text es k rest w.1 v.1 more faulty s.rest

pub no_journal : (n : ℕ) (bytes : List ℕ) (j : List Event) → AllByRecursion IsWritable j → IsFirstFault n bytes
    → bytes ≢ journal_text j
no_journal n bytes j v fault h = no_text fault.before j fault.rest fault.written v fault.more fault.faulty
    (sym fault.cut ∙ h)

as_many : (b c : List Event) (s t : List ℕ) → AllByRecursion IsWritable b → AllByRecursion IsWritable c → IsFaulty s
    → IsFaulty t
    → journal_text b ++ s ≡ journal_text c ++ t → length b ≡ length c
as_many [] [] s t w v refused denied h = refl
as_many [] (f ∷ c) s t w v refused denied h = absurd (refused f (journal_text c ++ t) v.0 (h ∙ first_line f c t))
as_many (e ∷ b) [] s t w v refused denied h = absurd (denied e (journal_text b ++ s) w.0 (sym h ∙ first_line e b s))
as_many (e ∷ b) (f ∷ c) s t w v refused denied h =
    let same = same_line e f (journal_text b ++ s) (journal_text c ++ t) w.0 v.0 (sym (first_line e b s) ∙ h
    ∙ first_line f c t) in
    omega (arith, as_many b c s t w.1 v.1 refused denied same.rest)

pub one_fault : (n m : ℕ) (bytes : List ℕ) → IsFirstFault n bytes → IsFirstFault m bytes → n ≡ m
one_fault n m bytes f g =
    omega (
      arith,
      f.number,
      g.number,
      as_many f.before g.before f.rest g.rest f.written g.written f.faulty g.faulty
          (sym f.cut ∙ g.cut),
    )

all_push : (j : List Event) (e : Event) → AllByRecursion IsWritable j → IsWritable e → AllByRecursion IsWritable
    (j ++ e ∷ [])
all_push [] e w v = (v, tt)
all_push (f ∷ j) e w v = (w.0, all_push j e w.1 v)

text_push : (j : List Event) (e : Event) (rest : List ℕ) → journal_text (j ++ e ∷ []) ++ rest ≡ journal_text j
    ++ (event_line e ++ rest)
text_push j e rest = rw (flat_map-append event_line j (e ∷ [])) (append_assoc (journal_text j) (journal_text (e ∷ []))
    rest ∙ ap (λ t. journal_text j ++ t) (first_line e [] rest))

-- ---- while a text is read

-- these events were read, and this is left
pub record IsRead (bytes : List ℕ) (journal : List Event) (rest : List ℕ) : Type 0 where
  pub cut : bytes ≡ journal_text journal ++ rest
  pub numbers : AllByRecursion IsWritable journal
  pub few : length journal + length rest ≤ length bytes

-- one event more is read
pub one_more : (bytes : List ℕ) (journal : List Event) (rest : List ℕ) (e : Event) (after : List ℕ)
    → IsRead bytes journal rest
    → event_at rest ≡ Some (e, after) → IsRead bytes (journal ++ e ∷ []) after
one_more bytes journal rest e after read at =
    let found = event_sound rest (e, after) at in
    record {
      cut = read.cut ∙ ap (λ t. journal_text journal ++ t) found.cut ∙ sym (text_push journal e after);
      numbers = all_push journal e read.numbers found.written;
      few = omega (
        arith,
        read.few,
        line_begins e,
        ap length found.cut,
        length-append (event_line e) after,
        length-append journal (e ∷ []),
      );
    }

pub shorter : (rest : List ℕ) (e : Event) (after : List ℕ) → event_at rest ≡ Some (e, after) → length after < length
    rest
shorter rest e after at =
    omega (arith, line_begins e, ap length (event_sound rest (e, after) at).cut, length-append (event_line e) after)

-- no event is there
pub faulty_here : (bytes : List ℕ) (journal : List Event) (rest : List ℕ) → IsRead bytes journal rest → 0 < length rest
    → event_at rest ≡ None → IsFirstFault (length journal + 1) bytes
faulty_here bytes journal rest read some none = record {
  before = journal;
  rest = rest;
  written = read.numbers;
  cut = read.cut;
  number = refl;
  more = λ h. omega (arith, some, ap length h);
  faulty = λ e after w h. none_some (e, after) (sym none ∙ ap event_at h ∙ event_whole e after w);
}

-- all is read
pub all_read : (bytes : List ℕ) (journal : List Event) (rest : List ℕ) → IsRead bytes journal rest → length rest ≡ 0
    → bytes ≡ journal_text journal
all_read bytes journal [] read h = read.cut ∙ append-nil (journal_text journal)
all_read bytes journal (b ∷ rest) read h = absurd (omega arith)
