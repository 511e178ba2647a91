-- How many rows the records have, at most the end of 64 bits.
use Rattle.std.proofs.Common.{◌≡◌, ℕ, zero, suc, ◌+◌, ◌-◌, ◌^◌, ◌<◌, ◌≤◌, min, length, List, [], ◌∷◌, map, drop, get_or, Option, Some, None, refl, arith, ap, ap₂, sym, ◌∙◌, subst}
use Rattle.std.proofs.Math.Seq.{drop-cons}
use Rattle.pm_periods.specs.Records.{Record}
use Rattle.pm_clp.specs.Kept.{parts_in}
use Rattle.pm_clp.specs.Laid.{IsBare}
use Rattle.pm_clp.specs.Sizes.{rows_in, rows_of}

pub rows_are : (a b c m : ℕ) → min (a + b + c) m ≡ min (a + (b + c)) m
rows_are a b c m = omega arith

drop_past : {X : Type 0} (xs : List X) (n : ℕ) → length xs ≤ n → drop n xs ≡ []
drop_past [] zero i = refl
drop_past [] (suc n) i = refl
drop_past (x ∷ xs) zero i = absurd (omega arith)
drop_past (x ∷ xs) (suc n) i = drop_past xs n (omega arith)

pub sizes : (a b m : ℕ) → min (min a m + min b m) m ≡ min (a + b) m
sizes a b m = omega arith

-- the rows of the slots from i on
abbrev pub rest : ℕ → List (Option Record) → ℕ
rest i xs = rows_of (map parts_in (drop i xs))

bare_rows : (x : Option Record) → IsBare x → rows_in (parts_in x) ≡ 0
bare_rows None b = refl
bare_rows (Some r) b = rw (b.0, b.1.0, b.1.1) refl

rest-step : (xs : List (Option Record)) (i : ℕ) → i < length xs → rest i xs ≡ rows_in (parts_in (get_or xs i None)) + rest (suc i) xs
rest-step xs i low = ap (λ z. rows_of (map parts_in z)) (drop-cons xs i None low)

rest-pass : (k i : ℕ) (xs : List (Option Record)) → i + k ≤ length xs → ((v : ℕ) → i ≤ v → v < i + k → IsBare (get_or xs v None)) → rest i xs ≡ rest (i + k) xs
rest-pass zero i xs low bare = (let e : i ≡ i + 0 = omega arith in ap (λ z. rest z xs) e)
rest-pass (suc k) i xs low bare =
    let e : suc i + k ≡ i + suc k = omega arith in
    let none : rows_in (parts_in (get_or xs i None)) ≡ 0 = bare_rows (get_or xs i None) (bare i (omega arith) (omega arith)) in
    rest-step xs i (omega (arith, low)) ∙ ap (λ z. z + rest (suc i) xs) none ∙ (let z : 0 + rest (suc i) xs ≡ rest (suc i) xs = omega arith in z)
    ∙ rest-pass k (suc i) xs (omega (arith, low)) (λ v a b. bare v (omega (arith, a)) (omega (arith, b)))
    ∙ ap (λ z. rest z xs) e

-- slots without rows are passed
pub rest-skip : (i j : ℕ) (xs : List (Option Record)) → i ≤ j → j ≤ length xs → ((v : ℕ) → i ≤ v → v < j → IsBare (get_or xs v None)) → rest i xs ≡ rest j xs
rest-skip i j xs a b bare =
    let on : i + (j - i) ≡ j = omega arith in
    rest-pass (j - i) i xs (omega (arith, a, b)) (λ v c d. bare v c (omega (arith, d, a))) ∙ ap (λ z. rest z xs) on

-- one slot's rows are counted, and those after it up to the next one that has any are passed
pub rest-counted : (xs : List (Option Record)) (at next n rows m all : ℕ) → min (rows + rest at xs) m ≡ all → at < length xs → n ≡ min (rows_in (parts_in (get_or xs at None))) m
    → at + 1 ≤ next → next ≤ length xs → ((v : ℕ) → at + 1 ≤ v → v < next → IsBare (get_or xs v None)) → min (min (rows + n) m + rest next xs) m ≡ all
rest-counted xs at next n rows m all is low count up high bare =
    let step : rest at xs ≡ rows_in (parts_in (get_or xs at None)) + rest (suc at) xs = rest-step xs at low in
    let more : suc at ≡ at + 1 = omega arith in
    let skip : rest (suc at) xs ≡ rest next xs = ap (λ z. rest z xs) more ∙ rest-skip (at + 1) next xs up high bare in
    omega (arith, is, count, step, skip)

-- behind the last slot there are none
pub rest-none : (xs : List (Option Record)) (at rows m all : ℕ) → min (rows + rest at xs) m ≡ all → length xs ≤ at → rows ≤ m → rows ≡ all
rest-none xs at rows m all is past high =
    let none : rest at xs ≡ 0 = ap (λ z. rows_of (map parts_in z)) (drop_past xs at past) in
    omega (arith, is, none, high)
