-- Counts times edges.
use Rattle.std.proofs.Common.{◌≡◌, refl, ap, sym, ◌∙◌, arith, ℕ, zero, suc, ◌+◌, ◌*◌, ◌-◌, ◌<◌, ◌≤◌, min, List, [], ◌∷◌, length, get_or, set, drop, replicate}
use Rattle.std.specs.Prelude.{◌^◌}
use Rattle.std.proofs.Math.Nat.{suc-mul}
use Rattle.std.proofs.Math.Numerals.{suc-eq-add-one}
use Rattle.std.proofs.lemmas.List.{drop_all}
use Rattle.std.proofs.lemmas.Nat.{mul-le}
use Rattle.pm_place.specs.Tallies.{dot, raised}

-- counts that are 0 weigh nothing
pub dot-none : (n : ℕ) (ds : List ℕ) → dot (replicate n 0) ds ≡ 0
dot-none zero ds = refl
dot-none (suc n) [] = refl
dot-none (suc n) (d ∷ ds) = omega (arith, dot-none n ds)

-- one more at a place weighs what stands there
pub dot-set : (row ds : List ℕ) (k : ℕ) → k < length row → dot (set row k (get_or row k 0 + 1)) ds ≡ dot row ds + get_or ds k 0
dot-set [] ds k lt = absurd (omega arith)
dot-set (c ∷ cs) [] zero lt = refl
dot-set (c ∷ cs) [] (suc k) lt = refl
dot-set (c ∷ cs) (d ∷ ds) zero lt =
    let step : (c + 1) * d ≡ c * d + d = ap (λ n. n * d) (sym (suc-eq-add-one c)) ∙ suc-mul c d in
    omega (arith, step)
dot-set (c ∷ cs) (d ∷ ds) (suc k) lt = omega (arith, dot-set cs ds k (omega arith))

-- a count that is not at the end of 64 bits is one more
pub raised-more : (row ds : List ℕ) (k : ℕ) → k < length row → get_or row k 0 < 2 ^ 64 - 1 → dot (raised row k) ds ≡ dot row ds + get_or ds k 0
raised-more row ds k lt small =
    let more : min (get_or row k 0 + 1) (2 ^ 64 - 1) ≡ get_or row k 0 + 1 = omega arith in
    ap (λ n. dot (set row k n) ds) more ∙ dot-set row ds k lt

-- a count is part of their sum
pub cell-le : (row : List ℕ) (k : ℕ) → k < length row → get_or row k 0 ≤ dot row (replicate (length row) 1)
cell-le [] k lt = absurd (omega arith)
cell-le (c ∷ cs) zero lt = omega arith
cell-le (c ∷ cs) (suc k) lt = omega (arith, cell-le cs k (omega arith))

-- the edges are at most 128, and so the whole is at most 128 times the sum of the counts
pub dot-le : (row ds : List ℕ) → ((k : ℕ) → get_or ds k 0 ≤ 128) → dot row ds ≤ 128 * dot row (replicate (length row) 1)
dot-le [] ds h = omega arith
dot-le (c ∷ cs) [] h = omega arith
dot-le (c ∷ cs) (d ∷ ds) h =
    let first = mul-le c d c 128 (omega arith) (h 0) in
    let more = dot-le cs ds (λ k. h (suc k)) in
    omega (arith, first, more)

-- past the last edges nothing is added
pub dot-past : (counts edges : List ℕ) (i : ℕ) → length edges ≤ i → dot (drop i counts) (drop i edges) ≡ 0
dot-past counts edges i le = ap (dot (drop i counts)) (drop_all i edges le) ∙ dot-empty (drop i counts)
  where
    dot-empty : (row : List ℕ) → dot row [] ≡ 0
    dot-empty [] = refl
    dot-empty (c ∷ cs) = refl

pub ruleset dot_laws = (dot-past)
