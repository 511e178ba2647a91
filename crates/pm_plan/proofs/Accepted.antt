-- A list of parents from which no CLP is off the tree leads to one root.
use Rattle.std.proofs.Common.{eqb, ◌≡◌, ℕ, zero, suc, ◌+◌, ◌<◌, ◌≤◌, inl, inr, Bool, true, false, ◌||◌, ◌&&◌, List, [], ◌∷◌, length, take, refl, arith, ap, sym, ◌∙◌, subst, Option, Some, None}
use Rattle.std.specs.List.{list_any, IsDistinct, AllByRecursion}
use Rattle.std.specs.Prelude.{is_none}
use Rattle.std.proofs.lemmas.Bool.{cases_Bool, cases_lt, or_cases}
use Rattle.std.proofs.lemmas.Bool.Decides.{nat_tests}
use Rattle.std.proofs.lemmas.List.{get_or_past}
use Rattle.std.proofs.lemmas.Map.Keys.{IsDistinct-cons, IsDistinct-from_apart}
use Rattle.std.proofs.lemmas.Map.Steps.{length-le_from_distinct_below}
use Rattle.pm_plan.specs.Numbers.{least, least_from}
use Rattle.pm_plan.specs.Plans.{first_off_tree, is_off_tree, is_lost, is_second_root, is_endless}
use Rattle.pm_plan.specs.Trees.{parent, ups}
use Rattle.pm_plan.proofs.Rooted.{Rooted}

none_from : (p : ℕ → Bool) (n i k : ℕ) → least_from p i n ≡ None → i ≤ k → k < i + n → p k ≡ false
none_from p zero i k e lo hi = absurd (omega arith)
none_from p (suc n) i k e lo hi = elim (cases_Bool (p i)) [
  | inl f ↦ absurd (let g : least_from p i (suc n) ≡ Some i = rw f in let h : Some i ≡ None = sym g ∙ e in cc)
  | inr f ↦ (let g : least_from p i (suc n) ≡ least_from p (i + 1) n = rw f in elim (cases_lt i k) [
    | inl lt ↦ none_from p n (i + 1) k (sym g ∙ e) (omega arith) (omega arith)
    | inr le ↦ (let s : k ≡ i = omega arith in ap p s ∙ f)
  ])
]

-- none below n passes, where there is no least one
pub none_passes : (p : ℕ → Bool) (n k : ℕ) → least p n ≡ None → k < n → p k ≡ false
none_passes p n k e lt = none_from p n 0 k e (omega arith) (omega arith)

record OnTree (ps : List (Option ℕ)) (c : ℕ) : Type 0 where
  found : is_lost (length ps) (parent ps c) ≡ false
  only : is_second_root ps c ≡ false
  ends : is_endless ps c ≡ false

or_false : (a b : Bool) → (a || b) ≡ false → (a ≡ false) × (b ≡ false)
or_false true b e = absurd (cc)
or_false false b e = (refl, e)

on_tree : (ps : List (Option ℕ)) (c : ℕ) → is_off_tree ps c ≡ false → OnTree ps c
on_tree ps c e =
    let x = or_false (is_lost (length ps) (parent ps c) || is_second_root ps c) (is_endless ps c) e in
    let y = or_false (is_lost (length ps) (parent ps c)) (is_second_root ps c) x.0 in
    record { found = y.0; only = y.1; ends = x.1 }

-- a chain that ends is the same with more room
more_room : (ps : List (Option ℕ)) (k : ℕ) (o : Option ℕ) → length (ups k ps o) < k → ups (suc k) ps o ≡ ups k ps o
more_room ps zero o lt = absurd (omega arith)
more_room ps (suc k) None lt = refl
more_room ps (suc k) (Some c) lt = ap (λ z. c ∷ z) (more_room ps k (parent ps c) (omega arith))

in_list : (ps : List (Option ℕ)) (c d : ℕ) → parent ps c ≡ Some d → c < length ps
in_list ps c d e = elim (cases_lt c (length ps)) [
  | inl lt ↦ lt
  | inr le ↦ absurd (let p : parent ps c ≡ None = get_or_past ps c None le in let q : Some d ≡ None = sym e ∙ p in cc)
]

none_equal : (c : ℕ) (xs : List ℕ) → list_any (eqb c) xs ≡ false → AllByRecursion (λ y. eqb c y ≡ false) xs
none_equal c [] e = tt
none_equal c (x ∷ xs) e = (let f = or_false (eqb c x) (list_any (eqb c) xs) e in (f.0, none_equal c xs f.1))

-- of two roots one is below the other
none_below : (ps : List (Option ℕ)) (n c : ℕ) → c < n → n ≤ length ps → parent ps c ≡ None → list_any is_none (take n ps) ≡ true
none_below [] n c lt le e = absurd (omega arith)
none_below (p ∷ ps) zero c lt le e = absurd (omega arith)
none_below (p ∷ ps) (suc n) zero lt le e = (let f : is_none p ≡ true = ap is_none e in rw f)
none_below (p ∷ ps) (suc n) (suc c) lt le e = (let again = none_below ps n c (omega arith) (omega arith) e in or_true (is_none p) (list_any is_none (take n ps)) again)
  where
    or_true : (a b : Bool) → b ≡ true → (a || b) ≡ true
    or_true true b f = refl
    or_true false b f = f

module _ (ps : List (Option ℕ)) (some : 1 ≤ length ps) (ok : first_off_tree ps ≡ None) where
  abbrev N : ℕ
  N = length ps

  each : (c : ℕ) → c < N → OnTree ps c
  unfolding first_off_tree
  each c lt = on_tree ps c (none_passes (is_off_tree ps) N c ok lt)

  -- how many CLPs are above c
  depth : ℕ → ℕ
  depth c = length (ups (suc N) ps (parent ps c))

  bound : (c : ℕ) → c < N → depth c ≤ N
  unfolding depth
  bound c lt = (let e = (each c lt).ends in let s : length (ups (suc (suc N)) ps (Some c)) ≤ suc N = grind (arith, nat_tests, e) in omega (arith, s))

  step : (c d : ℕ) → parent ps c ≡ Some d → d < N → suc (depth d) ≡ depth c
  unfolding depth
  step c d e lt =
      let s : length (ups (suc N) ps (parent ps c)) ≡ suc (length (ups N ps (parent ps d))) = ap (λ o. length (ups (suc N) ps o)) e in
      let m : length (ups N ps (parent ps d)) < N = (let b : length (ups (suc N) ps (parent ps c)) ≤ N = bound c (in_list ps c d e) in omega (arith, s, b)) in
      let r : length (ups (suc N) ps (parent ps d)) ≡ length (ups N ps (parent ps d)) = ap length (more_room ps N (parent ps d) m) in
      omega (arith, s, r)

  inside : (c d : ℕ) → parent ps c ≡ Some d → d < N
  inside c d e = (let f : is_lost N (Some d) ≡ false = ap (is_lost N) (sym e) ∙ (each c (in_list ps c d e)).found in grind (arith, nat_tests, f))

  -- c and the CLPs above it
  chain : ℕ → List ℕ
  chain c = c ∷ ups (suc N) ps (parent ps c)

  chain_root : (c : ℕ) → parent ps c ≡ None → chain c ≡ c ∷ []
  unfolding chain
  chain_root c e = ap (λ o. c ∷ ups (suc N) ps o) e

  chain_step : (c d : ℕ) → parent ps c ≡ Some d → d < N → chain c ≡ c ∷ chain d
  unfolding chain depth
  chain_step c d e lt =
      let s : length (ups (suc N) ps (parent ps c)) ≡ suc (length (ups N ps (parent ps d))) = ap (λ o. length (ups (suc N) ps o)) e in
      let m : length (ups N ps (parent ps d)) < N = (let b : length (ups (suc N) ps (parent ps c)) ≤ N = bound c (in_list ps c d e) in omega (arith, s, b)) in
      ap (λ o. c ∷ ups (suc N) ps o) e ∙ ap (λ z. c ∷ (d ∷ z)) (sym (more_room ps N (parent ps d) m))

  record Apart (c : ℕ) : Type 0 where
    distinct : IsDistinct eqb (chain c)
    below : (q : ℕ) → list_any (eqb q) (chain c) ≡ true → (q < N) × (depth q ≤ depth c)

  apart_root : (c : ℕ) → c < N → parent ps c ≡ None → Apart c
  apart_root c lt e = record {
    distinct = subst (IsDistinct eqb) (sym (chain_root c e)) (IsDistinct-from_apart eqb (c ∷ []) (λ i j d lo hi. absurd (omega (arith, lo, hi))));
    below = λ q h. (let g : list_any (eqb q) (c ∷ []) ≡ true = ap (list_any (eqb q)) (sym (chain_root c e)) ∙ h in
        let s : q ≡ c = same q g in (omega (arith, s), (let t = ap depth s in omega (arith, t))));
  }
    where
      same : (q : ℕ) → list_any (eqb q) (c ∷ []) ≡ true → q ≡ c
      same q g = grind (arith, nat_tests, g)

  apart_step : (c d : ℕ) → c < N → parent ps c ≡ Some d → d < N → Apart d → Apart c
  apart_step c d lc e ld a = record {
    distinct = subst (IsDistinct eqb) (sym (chain_step c d e ld)) (IsDistinct-cons eqb c (chain d) (none_equal c (chain d) new) a.distinct);
    below = λ q h. within q (ap (list_any (eqb q)) (sym (chain_step c d e ld)) ∙ h);
  }
    where
      new : list_any (eqb c) (chain d) ≡ false
      new = elim (cases_Bool (list_any (eqb c) (chain d))) [
        | inr f ↦ f
        | inl f ↦ absurd (let b = (a.below c f).1 in let s = step c d e ld in omega (arith, b, s))
      ]

      within : (q : ℕ) → list_any (eqb q) (c ∷ chain d) ≡ true → (q < N) × (depth q ≤ depth c)
      within q g = elim (or_cases (eqb q c) (list_any (eqb q) (chain d)) g) [
        | inl f ↦ (let s : q ≡ c = grind (arith, nat_tests, f) in (omega (arith, s), (let t = ap depth s in omega (arith, t))))
        | inr f ↦ (let b = a.below q f in let s = step c d e ld in (b.0, omega (arith, b.1, s)))
      ]

  apart : (m c : ℕ) → c < N → depth c ≤ m → Apart c
  apart zero c lt le = go (parent ps c) refl
    where
      go : (o : Option ℕ) → parent ps c ≡ o → Apart c
      go None e = apart_root c lt e
      go (Some d) e = absurd (let s = step c d e (inside c d e) in omega (arith, s))
  apart (suc m) c lt le = go (parent ps c) refl (λ d ld le'. apart m d ld le')
    where
      go : (o : Option ℕ) → parent ps c ≡ o → ((d : ℕ) → d < N → depth d ≤ m → Apart d) → Apart c
      go None e rec = apart_root c lt e
      go (Some d) e rec = apart_step c d lt e (inside c d e) (rec d (inside c d e) (let s = step c d e (inside c d e) in omega (arith, s)))

  chain_long : (c : ℕ) → length (chain c) ≡ suc (depth c)
  unfolding chain depth
  chain_long c = refl

  outside : (c : ℕ) → N ≤ c → depth c < N
  unfolding depth
  outside c le = (let s : length (ups (suc N) ps (parent ps c)) ≡ 0 = ap (λ o. length (ups (suc N) ps o)) (get_or_past ps c None le) in omega (arith, s, some))

  low : (c : ℕ) → depth c < N
  low c = elim (cases_lt c N) [
    | inl lt ↦ (let a = apart (depth c) c lt (omega arith) in
        let s : length (chain c) ≤ N = length-le_from_distinct_below (chain c) N a.distinct (λ q h. (a.below q h).0) in
        let l = chain_long c in omega (arith, s, l))
    | inr le ↦ outside c le
  ]

  no_other : (c d : ℕ) → c < d → d < N → parent ps c ≡ None → parent ps d ≡ None → ⊥
  no_other c d lt ld e f =
      let g : list_any is_none (take d ps) ≡ true = none_below ps d c lt (omega arith) e in
      let h : is_second_root ps d ≡ true = ap (λ o. is_none o && list_any is_none (take d ps)) f ∙ g in
      let k : true ≡ false = sym h ∙ (each d ld).only in cc

  one : (c d : ℕ) → c < N → d < N → parent ps c ≡ None → parent ps d ≡ None → c ≡ d
  one c d lc ld e f = elim (cases_lt c d) [
    | inl lt ↦ absurd (no_other c d lt ld e f)
    | inr le ↦ elim (cases_lt d c) [ inl lt ↦ absurd (no_other d c lt lc f e) | inr ge ↦ omega arith ]
  ]

  pub rooted : Rooted ps
  rooted = record { rank = depth; low = low; inside = inside; step = λ c d e. step c d e (inside c d e); one = one }
