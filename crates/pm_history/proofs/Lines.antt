-- The line of an event is read back, and what is read as an event was written.
use Rattle.std.proofs.Common.{◌≡◌, ◌∙◌, refl, sym, ap, arith, ℕ, ◌^◌, ◌<◌, ◌≤◌, Bool, true, false, cond, List, ◌++◌, length, drop, Option, Some, None, ◌⊎◌, inl, inr, append_assoc, codes, subst}
use Rattle.std.specs.Prelude.{nat_eq, option_and_then}
use Rattle.std.specs.Fmt.{decimal}
use Rattle.std.specs.List.{starts_with}
use Rattle.std.proofs.lemmas.Bool.Decides.{Decides-eqb}
use Rattle.std.proofs.lemmas.List.{drop_at}
use Rattle.std.proofs.lemmas.Slice.Eq.{starts_is}
use Rattle.pm_base.specs.declared.run.Event.{Event}
use Rattle.pm_base.specs.declared.run.Event.TheVariants.{Deliver, Commit}
use Rattle.pm_base.specs.declared.stamp.Line.TheVariants.{At, End}
use Rattle.pm_history.specs.Journals.{IsWritable, event_line, pair_text}
use Rattle.pm_history.specs.Scans.{after, commit_at, deliver_at, end_at, event_at, number_at, or_else, pair_at, stamp_at, ◌>>=◌}
use Rattle.pm_history.proofs.Numbers.{none_some, number_sound, number_whole, some_same}

-- ---- options

bind_some : {A B : Type 0} (o : Option A) (f : A → Option B) (b : B) → option_and_then f o ≡ Some b
    → (a : A) × (o ≡ Some a) × (f a ≡ Some b)
bind_some None f b h = none_some b h
bind_some (Some a) f b h = (a, refl, h)

either_some : {A : Type 0} (a b : Option A) (r : A) → or_else a b ≡ Some r → (a ≡ Some r) ⊎ (b ≡ Some r)
either_some None b r h = inr h
either_some (Some a) b r h = inl h

-- ---- words

after_sound : (w t r : List ℕ) → after w t ≡ Some r → t ≡ w ++ r
unfolding after
after_sound w t r = by (starts_with nat_eq t w) refl
  where
    by : (b : Bool) → starts_with nat_eq t w ≡ b → cond b (Some (drop (length w) t)) None ≡ Some r → t ≡ w ++ r
    by true is h = (starts_is Decides-eqb t w (starts_with nat_eq t w) refl).0 is ∙ ap (λ u. w ++ u) (some_same _ _ h)
    by false is h = none_some r h

after_whole : (w t : List ℕ) → after w (w ++ t) ≡ Some t
unfolding after
after_whole w t =
    let begins : starts_with nat_eq (w ++ t) w ≡ true = (starts_is Decides-eqb (w ++ t) w (starts_with nat_eq (w ++ t)
    w) refl).1 t refl in
    ap (λ (b : Bool). cond b (Some (drop (length w) (w ++ t))) None) begins ∙ ap (λ (u : List ℕ). Some u)
    (drop_at w t (length w) refl)

-- ---- two numbers

pair_rest : (a b : ℕ) (rest : List ℕ) → pair_text a b ++ rest ≡ decimal a
    ++ (codes " " ++ (decimal b ++ (codes "\n" ++ rest)))
pair_rest a b rest = simp append_assoc

-- two numbers that are read stand at the front
record IsPair (most : ℕ) (text : List ℕ) (r : ℕ × ℕ × List ℕ) : Type 0 where
  cut : text ≡ pair_text r.0 r.1 ++ r.2
  first : r.0 ≤ most
  second : r.1 ≤ 4294967295

pair_sound : (most : ℕ) (text : List ℕ) (r : ℕ × ℕ × List ℕ) → most < 2 ^ 64 → pair_at most text ≡ Some r
    → IsPair most text r
unfolding pair_at
pair_sound most text r few h =
    let a = bind_some (number_at most text) _ r h in
    let t = bind_some (after (codes " ") a.0.1) _ r a.2 in
    let b = bind_some (number_at 4294967295 t.0) _ r t.2 in
    let u = bind_some (after (codes "\n") b.0.1) _ r b.2 in
    let one = number_sound most text a.0 few a.1 in
    let two = number_sound 4294967295 t.0 b.0 (omega arith) b.1 in
    let same : (a.0.0, b.0.0, u.0) ≡ r = some_same _ _ u.2 in
    let parts : text ≡ decimal a.0.0 ++ (codes " " ++ (decimal b.0.0 ++ (codes "\n" ++ u.0))) =
    one.cut ∙ ap (λ x. decimal a.0.0 ++ x) (after_sound _ _ _ t.1 ∙ ap (λ x. codes " " ++ x)
    (two.cut ∙ ap (λ x. decimal b.0.0 ++ x) (after_sound _ _ _ u.1))) in
    let first : a.0.0 ≡ r.0 = ap (λ (x : ℕ × ℕ × List ℕ). x.0) same in
    let second : b.0.0 ≡ r.1 = ap (λ (x : ℕ × ℕ × List ℕ). x.1) same in
    record {
      cut = parts ∙ sym (pair_rest a.0.0 b.0.0 u.0) ∙ ap (λ (x : ℕ × ℕ × List ℕ). pair_text x.0 x.1 ++ x.2) same;
      first = omega (arith, one.within);
      second = omega (arith, two.within);
    }

pair_whole : (most a b : ℕ) (rest : List ℕ) → most < 2 ^ 64 → a ≤ most → b < 2 ^ 32 → pair_at most (pair_text a b
    ++ rest) ≡ Some (a, b, rest)
unfolding pair_at
pair_whole most a b rest few first second =
    ap (λ x. number_at most x >>= λ r. after (codes " ") r.1 >>= λ t. number_at 4294967295 t >>= λ s. after (codes "\n")
    s.1 >>= λ u. Some (r.0, s.0, u)) (pair_rest a b rest)
    ∙ rw (number_whole most a (codes " " ++ (decimal b ++ (codes "\n" ++ rest))) few first refl)
    (rw (after_whole (codes " ") (decimal b ++ (codes "\n" ++ rest)))
    (rw (number_whole 4294967295 b (codes "\n" ++ rest) (omega arith) (omega arith) refl)
    (rw (after_whole (codes "\n") rest) refl)))

-- ---- events

-- an event that is read stands at the front with its line
pub record IsEvent (text : List ℕ) (r : Event × List ℕ) : Type 0 where
  pub cut : text ≡ event_line r.0 ++ r.1
  pub written : IsWritable r.0

moved : (text : List ℕ) (p r : Event × List ℕ) → p ≡ r → IsEvent text p → IsEvent text r
moved text p r e h = subst (λ (x : Event × List ℕ). IsEvent text x) e h

deliver_sound : (text : List ℕ) (r : Event × List ℕ) → deliver_at text ≡ Some r → IsEvent text r
unfolding deliver_at
deliver_sound text r h =
    let t = bind_some (after (codes "#j d ") text) _ r h in
    let p = bind_some (pair_at 4294967295 t.0) _ r t.2 in
    let found = pair_sound 4294967295 t.0 p.0 (omega arith) p.1 in
    moved text (Deliver p.0.0 p.0.1, p.0.2) r (some_same _ _ p.2) (record {
      cut = after_sound _ _ _ t.1 ∙ ap (λ x. codes "#j d " ++ x) found.cut
          ∙ sym (append_assoc (codes "#j d ") (pair_text p.0.0 p.0.1) p.0.2);
      written = (omega (arith, found.first), omega (arith, found.second));
    })

stamp_sound : (text : List ℕ) (r : Event × List ℕ) → stamp_at text ≡ Some r → IsEvent (codes "#j c " ++ text) r
stamp_sound text r h =
    let p = bind_some (pair_at 18446744073709551615 text) _ r h in
    let found = pair_sound 18446744073709551615 text p.0 (omega arith) p.1 in
    moved (codes "#j c " ++ text) (Commit (At (record { time = p.0.0; agent = p.0.1 })), p.0.2) r (some_same _ _ p.2)
    (record {
      cut = ap (λ x. codes "#j c " ++ x) found.cut ∙ sym (append_assoc (codes "#j c ") (pair_text p.0.0 p.0.1) p.0.2);
      written = (omega (arith, found.first), omega (arith, found.second));
    })

end_sound : (text : List ℕ) (r : Event × List ℕ) → end_at text ≡ Some r → IsEvent (codes "#j c " ++ text) r
end_sound text r h =
    let u = bind_some (after (codes "end\n") text) _ r h in
    moved (codes "#j c " ++ text) (Commit End, u.0) r (some_same _ _ u.2) (record {
      cut = ap (λ x. codes "#j c " ++ x) (after_sound _ _ _ u.1);
      written = tt;
    })

commit_sound : (text : List ℕ) (r : Event × List ℕ) → commit_at text ≡ Some r → IsEvent text r
unfolding commit_at
commit_sound text r h =
    let t = bind_some (after (codes "#j c ") text) _ r h in
    let found : IsEvent (codes "#j c " ++ t.0) r = elim (either_some (stamp_at t.0) (end_at t.0) r t.2)
    [ inl s ↦ stamp_sound t.0 r s | inr e ↦ end_sound t.0 r e ] in
    subst (λ x. IsEvent x r) (sym (after_sound _ _ _ t.1)) found

pub event_sound : (text : List ℕ) (r : Event × List ℕ) → event_at text ≡ Some r → IsEvent text r
unfolding event_at
event_sound text r h = elim (either_some (deliver_at text) (commit_at text) r h) [
  | inl d ↦ deliver_sound text r d
  | inr
      c ↦ commit_sound text r c
]

pub event_whole : (e : Event) (rest : List ℕ) → IsWritable e → event_at (event_line e ++ rest) ≡ Some (e, rest)
unfolding event_at deliver_at commit_at after pair_at number_at
event_whole (Deliver to from) rest w =
    let pair = pair_whole 4294967295 to from rest (omega arith) (omega (arith, w.0)) w.1 in
    rw (append_assoc (codes "#j d ") (pair_text to from) rest) (rw pair refl)
event_whole (Commit (At s)) rest w =
    let pair = pair_whole 18446744073709551615 s.time s.agent rest (omega arith) (omega (arith, w.0)) w.1 in
    rw (append_assoc (codes "#j c ") (pair_text s.time s.agent) rest) (rw pair refl)
event_whole (Commit End) rest w = refl
