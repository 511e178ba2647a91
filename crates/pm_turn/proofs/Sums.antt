-- Sums over lists that change at one place.
use Rattle.std.proofs.Common.{◌≡◌, ℕ, zero, suc, ◌+◌, ◌≤◌, ◌≢◌, List, [], ◌∷◌, ◌++◌, set, sym, refl, ap, arith}
use mathlib.Core.Option.{some, some-injective, some-ne-none}
use lib.ListN.{get_elem?}
use Rattle.pm_turn.specs.Sums.{total, times}

pub times_same : (j : ℕ) (h : List ℕ) → times j (j ∷ h) ≡ 1 + times j h
times_same j h = grind arith

pub times_other : (j i : ℕ) (h : List ℕ) → j ≢ i → times j (i ∷ h) ≡ times j h
times_other j i h ne = grind arith

module _ {A : Type 0} (g : A → ℕ) where
  pub total-append : (l m : List A) → total g (l ++ m) ≡ total g l + total g m
  total-append [] m = omega arith
  total-append (x ∷ xs) m = omega (arith, total-append xs m)

  pub total-set : (l : List A) (j : ℕ) (v w : A) → get_elem? l j ≡ some v → total g (set l j w) + g v ≡ total g l + g w
  total-set [] j v w e = absurd (some-ne-none v (sym e))
  total-set (x ∷ xs) zero v w e = omega (arith, ap g (some-injective x v e))
  total-set (x ∷ xs) (suc j) v w e = omega (arith, total-set xs j v w e)

  pub term_le : (l : List A) (j : ℕ) (v : A) → get_elem? l j ≡ some v → g v ≤ total g l
  term_le [] j v e = absurd (some-ne-none v (sym e))
  term_le (x ∷ xs) zero v e = omega (arith, ap g (some-injective x v e))
  term_le (x ∷ xs) (suc j) v e = omega (arith, term_le xs j v e)

module _ {A : Type 0} (f g : A → ℕ) where
  -- where f is 0 of each, and f 0 means g 0, g is 0 of all
  rest_zero : (l : List A) → ((port : ℕ) (u : A) → get_elem? l port ≡ some u → f u ≡ 0 → g u ≡ 0) → total f l ≡ 0
      → total g l ≡ 0
  rest_zero [] h e = refl
  rest_zero (x ∷ xs) h e =
      let here : g x ≡ 0 = h 0 x refl (omega arith) in
      let more = rest_zero xs (λ port u at. h (suc port) u at) (omega arith) in omega (arith, here, more)

  -- where one has all of f, only it may have g
  pub alone : (l : List A) (id : ℕ) (v : A) → get_elem? l id ≡ some v → total f l ≡ f v → g v ≡ 0
      → ((port : ℕ) (u : A) → get_elem? l port ≡ some u → f u ≡ 0 → g u ≡ 0) → total g l ≡ 0
  alone [] id v at all none h = refl
  alone (x ∷ xs) zero v at all none h =
      let e = some-injective x v at in
      let more = rest_zero xs (λ port u at'. h (suc port) u at') (omega (arith, ap f e)) in omega (arith, ap g e, more)
  alone (x ∷ xs) (suc id) v at all none h =
      let least = term_le f xs id v at in
      let here : g x ≡ 0 = h 0 x refl (omega (arith, least)) in
      let more = alone xs id v at (omega (arith, least)) none (λ port u at'. h (suc port) u at') in
      omega (arith, here, more)
