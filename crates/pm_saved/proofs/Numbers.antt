-- Numbers that rise along the kept senses, and how one is found.
use Rattle.std.proofs.Common.{◌≡◌, refl, sym, ◌∙◌, ap, subst, ℕ, zero, suc, ◌+◌, ◌-◌, ◌<◌, ◌≤◌, ◌==◌, ◌&&◌, nat_lt}
use Rattle.std.proofs.Common.{nat_le, Bool, true, false, is_some, List, [], ◌∷◌, ◌++◌, length, get_or, set, take}
use Rattle.std.proofs.Common.{drop, slice_get, arith, Option, Some, None, IfSome, Bor, inl, inr}
use Rattle.std.proofs.lemmas.Bool.{cases_Bool, cases_lt, false≢true}
use Rattle.std.proofs.lemmas.Bool.Decides.{nat_tests}
use Rattle.std.proofs.lemmas.Option.{get_or_from_slice_get, none-some, same_Some, slice_get_past, slice_get_within}
use Rattle.std.specs.List.{AllByRecursion}
use Rattle.std.specs.Option.{option_copied, option_map}
use Rattle.pm_base.specs.Stamps.{num_eq}
use Rattle.pm_base.specs.declared.stamp.Num.{Num}
use Rattle.pm_saved.specs.Inner.{Fits, HitsRise, NumbersRise, SensesRise, in_step, place_in, sense_place, step_of}
use Rattle.pm_saved.specs.Inner.{step_place, steps_of}
use Rattle.pm_saved.specs.Spots.{InStep, Spot, find, find_sense, in_front, sense_at, spot_in, spot_of, step_at}
use Rattle.pm_saved.specs.Spots.{step_in_front}
use Rattle.pm_saved.specs.declared.held.Held.{Held}
use Rattle.pm_saved.specs.declared.kept.KeptSense.{KeptSense}
use Rattle.pm_saved.specs.declared.kept.KeptStep.{KeptStep}
use Rattle.pm_saved.specs.declared.spot.Spot.{Spot as Place}
use Rattle.pm_saved.proofs.Searches.{Parted, each_weaker}

pub num_eq-same : (a b : Num) → num_eq a b ≡ true → a ≡ b
num_eq-same a b h = grind (arith, nat_tests)

pub senses_end : (n : ℕ) (xs : List KeptSense) (m : ℕ) → SensesRise n xs m → n ≤ m
senses_end n [] m h = h
senses_end n (x ∷ xs) m h = let e = senses_end (x.num.seq + 1) xs m h.2 in omega (arith, h.0)

senses_from : (n : ℕ) (xs : List KeptSense) (m : ℕ) → SensesRise n xs m
    → AllByRecursion (λ (x : KeptSense). n ≤ x.num.seq) xs
senses_from n [] m h = tt
senses_from n (x ∷ xs) m h = (
  h.0,
  each_weaker (λ (y : KeptSense). x.num.seq + 1 ≤ y.num.seq) (λ (y : KeptSense). n ≤ y.num.seq)
      (λ y le. omega (arith, h.0)) xs (senses_from (x.num.seq + 1) xs m h.2),
)

senses_below : (n : ℕ) (xs : List KeptSense) (m : ℕ) → SensesRise n xs m
    → AllByRecursion (λ (x : KeptSense). x.num.seq < m) xs
senses_below n [] m h = tt
senses_below n (x ∷ xs) m h = (
  let e = senses_end (x.num.seq + 1) xs m h.2 in omega arith,
  senses_below
      (x.num.seq + 1) xs m h.2,
)

pub senses-parted : (q n : ℕ) (xs : List KeptSense) (m : ℕ) → SensesRise n xs m → Parted (λ x. nat_lt x.num.seq q) xs
senses-parted q n [] m h = tt
senses-parted q n (x ∷ xs) m h = (
  (λ f. each_weaker (λ (y : KeptSense). x.num.seq + 1 ≤ y.num.seq) (λ (y : KeptSense). nat_lt y.num.seq q
      ≡ false) (λ y le. grind (arith, nat_tests)) xs (senses_from (x.num.seq + 1) xs m h.2)),
  senses-parted q
      (x.num.seq + 1) xs m h.2,
)

pub steps_end : (n : ℕ) (hs : List Held) (m : ℕ) → NumbersRise n hs m → n ≤ m
steps_end n [] m h = h
steps_end n (g ∷ gs) m h = let e = senses_end n g.senses.items g.next h.0 in let f = steps_end g.next gs m h.1 in
    omega arith

steps_from : (n : ℕ) (hs : List Held) (m : ℕ) → NumbersRise n hs m → AllByRecursion (λ (g : Held). n ≤ g.next) hs
steps_from n [] m h = tt
steps_from n (g ∷ gs) m h =
    let e = senses_end n g.senses.items g.next h.0 in (
      e,
      each_weaker (λ (y : Held). g.next ≤ y.next) (λ (y : Held). n ≤ y.next)
          (λ y le. omega arith) gs (steps_from g.next gs m h.1),
    )

pub steps-parted : (q n : ℕ) (hs : List Held) (m : ℕ) → NumbersRise n hs m → Parted (λ g. nat_le g.next q) hs
steps-parted q n [] m h = tt
steps-parted q n (g ∷ gs) m h = (
  (λ f. each_weaker (λ (y : Held). g.next ≤ y.next) (λ (y : Held). nat_le y.next q
      ≡ false) (λ y le. grind (arith, nat_tests)) gs (steps_from g.next gs m h.1)),
  steps-parted q g.next gs m h.1,
)

-- a number that no sense has isn't found
none_of : (q : Num) (xs : List KeptSense) → AllByRecursion (λ (x : KeptSense). num_eq q x.num ≡ false) xs
    → find_sense q xs ≡ None
none_of q [] h = refl
none_of q (x ∷ xs) h = rw (h.0, none_of q xs h.1) refl

none_below : (q : Num) (n : ℕ) (xs : List KeptSense) (m : ℕ) → SensesRise n xs m → m ≤ q.seq → find_sense q xs ≡ None
none_below q n xs m h le = none_of q xs (each_weaker (λ (x : KeptSense). x.num.seq < m)
    (λ (x : KeptSense). num_eq q x.num ≡ false) (λ x lt. grind (arith, nat_tests)) xs (senses_below n xs m h))

none_after : (q : Num) (n : ℕ) (xs : List KeptSense) (m : ℕ) → SensesRise n xs m → q.seq < n → find_sense q xs ≡ None
none_after q n xs m h lt = none_of q xs (each_weaker (λ (x : KeptSense). n ≤ x.num.seq)
    (λ (x : KeptSense). num_eq q x.num ≡ false) (λ x le. grind (arith, nat_tests)) xs (senses_from n xs m h))

-- the sense of a number stands at its place
abbrev pub sense_there : Num → List KeptSense → ℕ → Option KeptSense → Option ℕ
sense_there q xs j None = None
sense_there q xs j (Some x) = elim (num_eq q x.num) [ true ↦ Some j | false ↦ None ]

pub record IsFound (q : Num) (xs : List KeptSense) (r : Option ℕ) : Type 0 where
  pub place : find_sense q xs ≡ place_in xs r
  pub variant : is_some (find_sense q xs) ≡ is_some r

pub sense-absent : (q : Num) (n : ℕ) (xs : List KeptSense) (m : ℕ) → SensesRise n xs m
    → slice_get xs (sense_place q.seq xs) ≡ None → find_sense q xs ≡ None
sense-absent q n [] m h e = refl
sense-absent q n (x ∷ xs) m h e = elim (cases_Bool (nat_lt x.num.seq q.seq)) [
  | inl t ↦ (
      let ne : num_eq q x.num ≡ false = grind (arith, nat_tests) in
      let again : slice_get xs (sense_place q.seq xs) ≡ None = rw t at e in
      rw (ne, sense-absent q (x.num.seq + 1) xs m h.2 again) refl)
  | inr f ↦ (let gone : Some x ≡ None = rw f at e in absurd cc)
]

pub sense-other : (q : Num) (n : ℕ) (xs : List KeptSense) (m : ℕ) → SensesRise n xs m → (x : KeptSense)
    → slice_get xs (sense_place q.seq xs) ≡ Some x → num_eq q x.num ≡ false → find_sense q xs ≡ None
sense-other q n [] m h x e g = refl
sense-other q n (y ∷ ys) m h x e g = elim (cases_Bool (nat_lt y.num.seq q.seq)) [
  | inl t ↦ (
      let ne : num_eq q y.num ≡ false = grind (arith, nat_tests) in
      let again : slice_get ys (sense_place q.seq ys) ≡ Some x = rw t at e in
      rw (ne, sense-other q (y.num.seq + 1) ys m h.2 x again g) refl)
  | inr f ↦ (
      let here : Some y ≡ Some x = rw f at e in
      let ne : num_eq q y.num ≡ false = ap (λ (z : KeptSense). num_eq q z.num) (same_Some y x here) ∙ g in
      rw (ne, none_after q (y.num.seq + 1) ys m h.2 (grind (arith, nat_tests))) refl)
]

pub sense-here : (q : Num) (n : ℕ) (xs : List KeptSense) (m : ℕ) → SensesRise n xs m → (x : KeptSense)
    → slice_get xs (sense_place q.seq xs) ≡ Some x → num_eq q x.num ≡ true
    → IsFound q xs (Some (sense_place q.seq xs))
sense-here q n [] m h x e g = absurd (none-some x e)
sense-here q n (y ∷ ys) m h x e g = elim (cases_Bool (nat_lt y.num.seq q.seq)) [
  | inl t ↦ (
      let ne : num_eq q y.num ≡ false = grind (arith, nat_tests) in
      let again : slice_get ys (sense_place q.seq ys) ≡ Some x = rw t at e in
      let i = sense-here q (y.num.seq + 1) ys m h.2 x again g in
      record {
        place = rw (t, ne) (ap (in_front y) i.place);
        variant = rw ne (in_front-some y (find_sense q ys)
            ∙ i.variant);
      })
  | inr f ↦ (
      let here : Some y ≡ Some x = rw f at e in
      let eq : num_eq q y.num ≡ true = ap (λ (z : KeptSense). num_eq q z.num) (same_Some y x here) ∙ g in
      record { place = rw (f, eq) refl; variant = rw eq refl })
]
  where
    in_front-some : (z : KeptSense) (o : Option InStep) → is_some (in_front z o) ≡ is_some o
    in_front-some z None = refl
    in_front-some z (Some i) = refl

-- and its step at its place
pub record IsFoundAt (q : Num) (hs : List Held) (r : Option Place) : Type 0 where
  pub place : find q (steps_of hs) ≡ spot_of r (steps_of hs)
  pub variant : is_some (find q (steps_of hs)) ≡ is_some r

in_front_some : (z : Held) (o : Option Spot) → is_some (step_in_front (step_of z) o) ≡ is_some o
in_front_some z None = refl
in_front_some z (Some i) = refl

behind : (g : Held) (gs : List Held) (i : ℕ) (r : Option ℕ)
    → step_in_front (step_of g) (spot_of (in_step i r) (steps_of gs)) ≡ spot_of (in_step (suc i) r) (steps_of (g ∷ gs))
behind g gs i None = refl
behind g gs i (Some j) = refl

some_in_step : (i k : ℕ) (r : Option ℕ) → is_some (in_step i r) ≡ is_some (in_step k r)
some_in_step i k None = refl
some_in_step i k (Some j) = refl

steps_after : (q : Num) (n : ℕ) (hs : List Held) (m : ℕ) → NumbersRise n hs m → q.seq < n → find q (steps_of hs) ≡ None
steps_after q n [] m h lt = refl
steps_after q n (g ∷ gs) m h lt =
    let e = senses_end n g.senses.items g.next h.0 in
    rw (none_after q n g.senses.items g.next h.0 lt, steps_after q g.next gs m h.1 (omega arith)) refl

pub step-absent : (q : Num) (n : ℕ) (hs : List Held) (m : ℕ) → NumbersRise n hs m
    → slice_get hs (step_place q.seq hs) ≡ None → find q (steps_of hs) ≡ None
step-absent q n [] m h e = refl
step-absent q n (g ∷ gs) m h e = elim (cases_Bool (nat_le g.next q.seq)) [
  | inl t ↦ (
      let again : slice_get gs (step_place q.seq gs) ≡ None = rw t at e in
      rw (
        none_below q n g.senses.items g.next h.0 (grind
            (arith, nat_tests)),
        step-absent q g.next gs m h.1 again,
      ) refl)
  | inr f ↦ (let gone : Some g ≡ None = rw f at e in absurd cc)
]

pub step-here : (q : Num) (n : ℕ) (hs : List Held) (m : ℕ) → NumbersRise n hs m → (k : Held)
    → slice_get hs (step_place q.seq hs) ≡ Some k → (r : Option ℕ) → IsFound q k.senses.items r
    → IsFoundAt q hs (in_step (step_place q.seq hs) r)
step-here q n [] m h k e r i = absurd (none-some k e)
step-here q n (g ∷ gs) m h k e r i = elim (cases_Bool (nat_le g.next q.seq)) [
  | inl t ↦ (
      let again : slice_get gs (step_place q.seq gs) ≡ Some k = rw t at e in
      let a = step-here q g.next gs m h.1 k again r i in
      let none : find_sense q g.senses.items
      ≡ None = none_below q n g.senses.items g.next h.0 (grind (arith, nat_tests)) in
      record {
        place = rw (t, none) (ap (step_in_front (step_of g)) a.place ∙ behind g gs (step_place q.seq gs) r);
        variant = rw (t, none) (in_front_some g (find q (steps_of gs)) ∙ (a.variant
            ∙ some_in_step (step_place q.seq gs) (suc (step_place q.seq gs)) r));
      })
  | inr f ↦ (
      let here : g ≡ k = same_Some g k (rw f at e) in
      let j : IsFound q g.senses.items r = subst (λ (z : Held). IsFound q z.senses.items r) (sym here) i in
      let none : find q (steps_of gs) ≡ None = steps_after q g.next gs m h.1 (grind (arith, nat_tests)) in
      rw f (first r j none))
]
  where
    first : (r : Option ℕ) → IsFound q g.senses.items r → find q (steps_of gs) ≡ None
        → IsFoundAt q (g ∷ gs) (in_step 0 r)
    first None j none = record { place = rw (j.place, none) refl; variant = rw (j.place, none) refl }
    first (Some p) j none = record {
      place = rw (j.place, none) refl;
      variant = rw none (some_spot
          (find_sense q g.senses.items) j.variant);
    }
      where
        some_spot : (o : Option InStep) → is_some o ≡ true → is_some (spot_in (step_of g) (steps_of gs) o None) ≡ true
        some_spot None w = w
        some_spot (Some z) w = w

-- a sense with the same number and rising hits in the place of the one there
pub rise-set : (n : ℕ) (xs : List KeptSense) (m at : ℕ) (d y : KeptSense) → SensesRise n xs m
    → y.num.seq ≡ (get_or xs at d).num.seq → HitsRise y.hits → SensesRise n (set xs at y) m
rise-set n [] m at d y h e r = h
rise-set n (x ∷ xs) m zero d y h e r = (
  omega (arith, e, h.0),
  r,
  subst (λ (k : ℕ). SensesRise (k + 1) xs m)
      (sym e) h.2,
)
rise-set n (x ∷ xs) m (suc at) d y h e r = (h.0, h.1, rise-set (x.num.seq + 1) xs m at d y h.2 e r)

pub rise-take : (n : ℕ) (xs : List KeptSense) (m k : ℕ) → SensesRise n xs m → SensesRise n (take k xs) m
rise-take n xs m zero h = senses_end n xs m h
rise-take n [] m (suc k) h = h
rise-take n (x ∷ xs) m (suc k) h = (h.0, h.1, rise-take (x.num.seq + 1) xs m k h.2)

pub hits-at : (n : ℕ) (xs : List KeptSense) (m at : ℕ) (d : KeptSense) → SensesRise n xs m → at < length xs
    → HitsRise (get_or xs at d).hits
hits-at n [] m at d h lt = absurd (omega arith)
hits-at n (x ∷ xs) m zero d h lt = h.1
hits-at n (x ∷ xs) m (suc at) d h lt = hits-at (x.num.seq + 1) xs m at d h.2 (omega arith)

-- one more sense
pub rise-push : (n : ℕ) (xs : List KeptSense) (m : ℕ) (y : KeptSense) → SensesRise n xs m → m ≤ y.num.seq
    → HitsRise y.hits → SensesRise n (xs ++ y ∷ []) (y.num.seq + 1)
rise-push n [] m y h le r = (omega arith, r, omega arith)
rise-push n (x ∷ xs) m y h le r = (h.0, h.1, rise-push (x.num.seq + 1) xs m y h.2 le r)

-- the same of steps
pub steps-set : (n : ℕ) (hs : List Held) (m at : ℕ) (d g : Held) → NumbersRise n hs m → ((k : ℕ)
    → Fits k (get_or hs at d) → Fits k g) → g.next ≡ (get_or hs at d).next → NumbersRise n (set hs at g) m
steps-set n [] m at d g h f e = h
steps-set n (x ∷ xs) m zero d g h f e = (f n h.0, subst (λ (k : ℕ). NumbersRise k xs m) (sym e) h.1)
steps-set n (x ∷ xs) m (suc at) d g h f e = (h.0, steps-set x.next xs m at d g h.1 f e)

pub steps-take : (n : ℕ) (hs : List Held) (m k : ℕ) → NumbersRise n hs m → NumbersRise n (take k hs) m
steps-take n hs m zero h = steps_end n hs m h
steps-take n [] m (suc k) h = h
steps-take n (x ∷ xs) m (suc k) h = (h.0, steps-take x.next xs m k h.1)

pub steps-push : (n : ℕ) (hs : List Held) (m : ℕ) (g : Held) → NumbersRise n hs m → Fits m g → g.next ≡ m
    → NumbersRise n (hs ++ g ∷ []) m
steps-push n [] m g h f e = (more n m g.senses.items h f, omega (arith, e))
  where
    more : (a b : ℕ) (xs : List KeptSense) → a ≤ b → SensesRise b xs g.next → SensesRise a xs g.next
    more a b [] le r = omega arith
    more a b (x ∷ xs) le r = (omega (arith, r.0), r.1, r.2)
steps-push n (x ∷ xs) m g h f e = (h.0, steps-push x.next xs m g h.1 f e)

pub steps-fit : (n : ℕ) (hs : List Held) (m at : ℕ) (d : Held) → NumbersRise n hs m → at < length hs
    → (k : ℕ) × Fits k (get_or hs at d)
steps-fit n [] m at d h lt = absurd (omega arith)
steps-fit n (x ∷ xs) m zero d h lt = (n, h.0)
steps-fit n (x ∷ xs) m (suc at) d h lt = steps-fit x.next xs m at d h.1 (omega arith)

-- the last step changed
last_rise : (n : ℕ) (x : Held) (xs : List Held) (m e k : ℕ) (d g : Held) → k ≡ length xs
    → NumbersRise n (x ∷ xs) m → ((i : ℕ) → Fits i (get_or (x ∷ xs) k d) → (get_or (x ∷ xs) k d).next ≤ m → Fits i g)
    → g.next ≡ e → NumbersRise n (set (x ∷ xs) k g) e
last_rise n x [] m e zero d g l h f q = (f n h.0 h.1, omega (arith, q))
last_rise n x [] m e (suc k) d g l h f q = absurd (omega (arith, l))
last_rise n x (y ∷ ys) m e zero d g l h f q = absurd (omega (arith, l))
last_rise n x (y ∷ ys) m e (suc k) d g l h f q = (h.0, last_rise x.next y ys m e k d g (omega (arith, l)) h.1 f q)

pub steps-last : (hs : List Held) (n : ℕ) → n ≡ length hs → (m e : ℕ) (x g : Held) → x ≡ get_or hs (n - 1) x
    → NumbersRise 0 hs m → ((i : ℕ) → Fits i x → x.next ≤ m → Fits i g) → g.next ≡ e
    → NumbersRise 0 (set hs (n - 1) g) e
steps-last [] n l m e x g s h f q = omega arith
steps-last (y ∷ ys) n l m e x g s h f q =
    last_rise 0 y ys m e (n - 1) x g (omega (arith, l)) h (subst (λ (z : Held). (i : ℕ) → Fits i z → z.next ≤ m
    → Fits i g) s f) q

-- without the first step
pub steps-rest : (hs : List Held) (m : ℕ) → NumbersRise 0 hs m → NumbersRise 0 (drop 1 hs) m
steps-rest [] m h = h
steps-rest (x ∷ xs) m h = lower xs h.1
  where
    lower_senses : (xs : List KeptSense) (a b : ℕ) → SensesRise a xs b → SensesRise 0 xs b
    lower_senses [] a b h = omega arith
    lower_senses (x ∷ xs) a b h = (omega arith, h.1, h.2)

    lower : (gs : List Held) → NumbersRise x.next gs m → NumbersRise 0 gs m
    lower [] h = omega arith
    lower (g ∷ gs) h = (lower_senses g.senses.items x.next g.next h.0, h.1)

-- what is found in a step, by the number that stands at its place
abbrev pub found_if : ℕ → Bool → Option ℕ
found_if j true = Some j
found_if j false = None

absent_found : (q : Num) (xs : List KeptSense) → find_sense q xs ≡ None → IsFound q xs None
absent_found q xs e = record { place = e; variant = ap (λ (o : Option InStep). is_some o) e }

pub sense-found : (q : Num) (n : ℕ) (xs : List KeptSense) (m : ℕ) → SensesRise n xs m → (j : ℕ)
    → j ≡ sense_place q.seq xs → (b : Num) → option_map (λ (x : KeptSense). x.num) (slice_get xs j) ≡ Some b
    → (t : Bool) → num_eq q b ≡ t → IsFound q xs (found_if j t)
sense-found q n xs m h j e b f t g = subst (λ (k : ℕ). option_map (λ (x : KeptSense). x.num) (slice_get xs k)
    ≡ Some b → IsFound q xs (found_if k t)) (sym e) (λ w. by (slice_get xs (sense_place q.seq xs)) refl w t g) f
  where
    by : (o : Option KeptSense) → slice_get xs (sense_place q.seq xs) ≡ o
        → option_map (λ (x : KeptSense). x.num) o ≡ Some b → (t : Bool) → num_eq q b ≡ t
        → IsFound q xs (found_if (sense_place q.seq xs) t)
    by None u w t g = absurd (none-some b w)
    by (Some x) u w true g = sense-here q n xs m h x u (ap (num_eq q) (same_Some x.num b w) ∙ g)
    by (Some x) u w false g = absent_found q xs (sense-other q n xs m h x u (ap (num_eq q) (same_Some x.num b w) ∙ g))

pub sense-missing : (q : Num) (n : ℕ) (xs : List KeptSense) (m : ℕ) → SensesRise n xs m → (j : ℕ)
    → j ≡ sense_place q.seq xs → option_map (λ (x : KeptSense). x.num) (slice_get xs j) ≡ None → IsFound q xs None
sense-missing q n xs m h j e f = by (slice_get xs (sense_place q.seq xs)) refl (ap (λ (k : ℕ). option_map (λ
    (x : KeptSense). x.num) (slice_get xs k)) (sym e) ∙ f)
  where
    by : (o : Option KeptSense) → slice_get xs (sense_place q.seq xs) ≡ o
        → option_map (λ (x : KeptSense). x.num) o ≡ None → IsFound q xs None
    by None u w = absent_found q xs (sense-absent q n xs m h u)
    by (Some x) u w = absurd (none-some x.num (sym w))

pub nothing_rises : (hs : List Held) (n : ℕ) → n ≡ length hs → (0 < n → false ≡ true) → (e : ℕ) → NumbersRise 0 hs e
nothing_rises [] n e h k = omega arith
nothing_rises (y ∷ ys) n e h k = absurd (false≢true (h (omega (arith, e))))

-- the step's senses and end are the same
pub fits_same : (i : ℕ) (x g : Held) → step_of g ≡ step_of x → g.next ≡ x.next → Fits i x → Fits i g
fits_same i x g s e f =
    subst (λ (k : ℕ). SensesRise i g.senses.items k) (sym e) (subst (λ (z : List KeptSense). SensesRise i z x.next)
    (sym (ap (λ (k : KeptStep). k.senses) s)) f)

-- the step has one more sense
pub fits_more : (i : ℕ) (x g : Held) (y : KeptSense) → g.senses.items ≡ x.senses.items ++ y ∷ []
    → g.next ≡ y.num.seq + 1 → x.next ≤ y.num.seq → HitsRise y.hits → Fits i x → Fits i g
fits_more i x g y s e le r f =
    subst (λ (k : ℕ). SensesRise i g.senses.items k) (sym e)
    (subst (λ (z : List KeptSense). SensesRise i z (y.num.seq + 1)) (sym s)
    (rise-push i x.senses.items x.next y f le r))

pub keeps_last : (hs : List Held) (n : ℕ) → n ≡ length hs → (m : ℕ) (x g : Held) → x ≡ get_or hs (n - 1) x
    → NumbersRise 0 hs m → step_of g ≡ step_of x → g.next ≡ x.next → NumbersRise 0 (set hs (n - 1) g) m
keeps_last hs n l m x g s h e f =
    steps-set 0 hs m (n - 1) x g h (λ k t. fits_same k x g e f (subst (Fits k) (sym s) t)) (f
    ∙ ap (λ (z : Held). z.next) s)

pub ends_last : (hs : List Held) (n : ℕ) → n ≡ length hs → (m : ℕ) (x g : Held) → x ≡ get_or hs (n - 1) x
    → NumbersRise 0 hs m → g.senses.items ≡ x.senses.items → g.next ≡ x.next → NumbersRise 0 (set hs (n - 1) g) m
ends_last hs n l m x g s h e f =
    steps-set 0 hs m (n - 1) x g h
    (λ k t. subst (λ (j : ℕ). SensesRise k g.senses.items j) (sym f)
    (subst (λ (z : List KeptSense). SensesRise k z x.next) (sym e) (subst (Fits k) (sym s) t))) (f
    ∙ ap (λ (z : Held). z.next) s)

pub found_at : (q : Num) (hs : List Held) (m : ℕ) → NumbersRise 0 hs m → (i : ℕ) → i ≡ step_place q.seq hs
    → (k : Held) → slice_get hs i ≡ Some k → (r : Option ℕ) → IsFound q k.senses.items r
    → (o : Option Place) → o ≡ in_step i r → IsFoundAt q hs o
found_at q hs m h i e k there r f o g =
    subst (λ (z : Option Place). IsFoundAt q hs z) (sym (g
    ∙ ap (λ (j : ℕ). in_step j r) e)) (step-here q 0 hs m h k (sym (ap (slice_get hs) e) ∙ there) r f)

-- a sense that is lent has rising hits
pub lent_rise : (k : ℕ) (xs : List KeptSense) (m j : ℕ) (o : Option (Bor KeptSense)) → SensesRise k xs m
    → option_copied o ≡ slice_get xs j → IfSome o (λ r. HitsRise r.now.hits)
lent_rise k xs m j None h e = tt
lent_rise k xs m j (Some r) h e =
    subst (λ (z : KeptSense). HitsRise z.hits) (get_or_from_slice_get xs j r.now r.now (sym e))
    (hits-at k xs m j r.now h (slice_get_within xs j r.now (sym e)))

pub absent_at : (q : Num) (hs : List Held) (m : ℕ) → NumbersRise 0 hs m → (i : ℕ) → i ≡ step_place q.seq hs
    → (n : ℕ) → n ≡ length hs → (i < n → false ≡ true) → find q (steps_of hs) ≡ None
absent_at q hs m h i e n l never =
    let past : length hs ≤ i = elim (cases_lt i n) [
      | inl lt ↦ absurd (false≢true (never lt))
      | inr le ↦ omega
          (arith, le, l)
    ] in
    step-absent q 0 hs m h (ap (slice_get hs) (sym e) ∙ slice_get_past hs i past)

pub empty_rise : (n : ℕ) (xs : List KeptSense) → xs ≡ [] → SensesRise n xs n
empty_rise n [] e = omega arith
empty_rise n (x ∷ xs) e = absurd cc
