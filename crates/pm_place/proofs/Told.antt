-- What the counts tell of the accesses.
use Rattle.std.proofs.Common.{◌≡◌, ◌≢◌, refl, ap, ap₂, sym, subst, ◌∙◌, arith, ℕ, zero, suc, ◌+◌, ◌-◌, ◌<◌, ◌≤◌, Bool, true, false, cond, List, [], ◌∷◌, ◌++◌, append_assoc, append-nil, length, length-append, get_or, set, replicate}
use Rattle.std.specs.Prelude.{◌^◌, ◌==◌}
use Rattle.std.specs.List.{AllByRecursion, filter, sum_by}
use Rattle.std.proofs.lemmas.Bool.Decides.{nat_tests}
use Rattle.std.proofs.lemmas.List.{length-set, get_or-set_same, get_or-set_other, length-replicate}
use Rattle.std.proofs.lemmas.List.Elements.{filter-append}
use Rattle.std.proofs.lemmas.List.Sums.{sum_by-append, sum_by-cons}
use Rattle.pm_place.specs.Accesses.{Access}
use Rattle.pm_place.specs.Tallies.{dot, noted, noted_all, raised}
use Rattle.pm_place.proofs.Dots.{dot-none, raised-more, cell-le}

-- the accesses of that variable
abbrev pub of_var : ℕ → List Access → List Access
of_var v accesses = filter (λ (a : Access). a.var == v) accesses

-- what stands at the place of the process that the access comes from
abbrev pub far : List ℕ → Access → ℕ
far ds a = get_or ds a.home 0

-- the counts of n processes tell what these accesses of the variable cost, whatever the edges are
pub record Tells (n v : ℕ) (done : List Access) (counts : List ℕ) : Type 0 where
  pub size : length counts ≡ n
  pub sums : (ds : List ℕ) → dot counts ds ≡ sum_by (far ds) (of_var v done)

ones-le : (n k : ℕ) → get_or (replicate n 1) k 0 ≤ 1
ones-le zero k = omega arith
ones-le (suc n) zero = omega arith
ones-le (suc n) (suc k) = ones-le n k

ones-sum : (n : ℕ) (xs : List Access) → sum_by (far (replicate n 1)) xs ≤ length xs
ones-sum n [] = omega arith
ones-sum n (a ∷ xs) = let one = ones-le n a.home in omega (arith, sum_by-cons (far (replicate n 1)) a xs, ones-sum n xs, one)

-- the sum of the counts is at most the number of the accesses
pub told-few : (n v : ℕ) (done : List Access) (row : List ℕ) → Tells n v done row → dot row (replicate (length row) 1) ≤ length (of_var v done)
told-few n v done row t =
    let all = t.sums (replicate (length row) 1) in
    let few = ones-sum (length row) (of_var v done) in
    omega (arith, all, few)

-- before the first access
pub told-none : (n v : ℕ) → Tells n v [] (replicate n 0)
told-none n v = record { size = length-replicate n 0; sums = λ ds. dot-none n ds }

more-here : (v : ℕ) (done : List Access) (a : Access) → (a.var == v) ≡ true → of_var v (done ++ a ∷ []) ≡ of_var v done ++ a ∷ []
more-here v done a e = filter-append (λ (a : Access). a.var == v) done (a ∷ []) ∙ ap (λ b. of_var v done ++ cond b (a ∷ []) []) e

more-there : (v : ℕ) (done : List Access) (a : Access) → (a.var == v) ≡ false → of_var v (done ++ a ∷ []) ≡ of_var v done
more-there v done a e = filter-append (λ (a : Access). a.var == v) done (a ∷ []) ∙ ap (λ b. of_var v done ++ cond b (a ∷ []) []) e ∙ append-nil (of_var v done)

told-here : (n v : ℕ) (done : List Access) (row : List ℕ) (a : Access) → (a.var == v) ≡ true → a.home < n
    → length (of_var v (done ++ a ∷ [])) < 2 ^ 64 → Tells n v done row → Tells n v (done ++ a ∷ []) (raised row a.home)
told-here n v done row a e at few t =
    let size = t.size in
    let inside : a.home < length row = omega (arith, size) in
    let cell = cell-le row a.home inside in
    let sum = told-few n v done row t in
    let long = ap (λ (xs : List Access). length xs) (more-here v done a e) ∙ length-append (of_var v done) (a ∷ []) in
    let small : get_or row a.home 0 < 2 ^ 64 - 1 = omega (arith, cell, sum, long, few) in
    record {
      size = length-set row a.home _ ∙ size;
      sums = λ ds.
          let weighs = raised-more row ds a.home inside small in
          let split = ap (λ (xs : List Access). sum_by (far ds) xs) (more-here v done a e) ∙ sum_by-append (far ds) (of_var v done) (a ∷ []) in
          let one : sum_by (far ds) (a ∷ []) ≡ far ds a = omega (arith, sum_by-cons (far ds) a []) in
          let was = t.sums ds in
          omega (arith, weighs, split, one, was);
    }

told-there : (n v : ℕ) (done : List Access) (row : List ℕ) (a : Access) → (a.var == v) ≡ false → Tells n v done row → Tells n v (done ++ a ∷ []) row
told-there n v done row a e t = record {
  size = t.size;
  sums = λ ds. t.sums ds ∙ ap (λ (xs : List Access). sum_by (far ds) xs) (sym (more-there v done a e));
}

-- after one more access
told-step : (n v : ℕ) (done : List Access) (rows : List (List ℕ)) (a : Access) (here : Bool) → (a.var == v) ≡ here → a.home < n
    → length (of_var v (done ++ a ∷ [])) < 2 ^ 64 → v < length rows → Tells n v done (get_or rows v [])
    → Tells n v (done ++ a ∷ []) (get_or (noted a rows) v [])
told-step n v done rows a true e at few lt t =
    let same : a.var ≡ v = grind (arith, nat_tests, e) in
    let there : a.var < length rows = omega arith in
    let is : get_or (noted a rows) v [] ≡ raised (get_or rows v []) a.home =
    ap (λ k. get_or (noted a rows) k []) (sym same)
    ∙ get_or-set_same rows a.var (raised (get_or rows a.var []) a.home) [] there
    ∙ ap (λ k. raised (get_or rows k []) a.home) same in
    subst (Tells n v (done ++ a ∷ [])) (sym is) (told-here n v done (get_or rows v []) a e at few t)
told-step n v done rows a false e at few lt t =
    let other : v ≢ a.var = λ same. grind (arith, nat_tests, e, same) in
    subst (Tells n v (done ++ a ∷ [])) (sym (get_or-set_other rows a.var v (raised (get_or rows a.var []) a.home) [] other)) (told-there n v done (get_or rows v []) a e t)

fewer : (v : ℕ) (done xs more : List Access) → length (of_var v ((done ++ xs) ++ more)) < 2 ^ 64 → length (of_var v (done ++ xs)) < 2 ^ 64
fewer v done xs more few =
    let split = ap (λ (xs : List Access). length xs) (filter-append (λ (a : Access). a.var == v) (done ++ xs) more) in
    let long = length-append (of_var v (done ++ xs)) (of_var v more) in
    omega (arith, split, long, few)

-- after all of these accesses
pub told-all : (n v : ℕ) (xs done : List Access) (rows : List (List ℕ)) → AllByRecursion (λ (a : Access). a.home < n) xs
    → length (of_var v (done ++ xs)) < 2 ^ 64 → v < length rows → Tells n v done (get_or rows v [])
    → Tells n v (done ++ xs) (get_or (noted_all xs rows) v [])
told-all n v [] done rows homes few lt t = subst (λ xs. Tells n v xs (get_or rows v [])) (sym (append-nil done)) t
told-all n v (a ∷ xs) done rows homes few lt t =
    let joins : (done ++ a ∷ []) ++ xs ≡ done ++ a ∷ xs = append_assoc done (a ∷ []) xs in
    let all : length (of_var v ((done ++ a ∷ []) ++ xs)) < 2 ^ 64 = rw joins few in
    let size = length-set rows a.var (raised (get_or rows a.var []) a.home) in
    subst (λ all. Tells n v all (get_or (noted_all xs (noted a rows)) v [])) joins
    (told-all n v xs (done ++ a ∷ []) (noted a rows) homes.1 all (omega (arith, size, lt))
    (told-step n v done rows a (a.var == v) refl homes.0 (fewer v done (a ∷ []) xs all) lt t))
