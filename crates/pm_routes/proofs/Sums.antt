-- The counts of a variable and their sum.
use Rattle.std.proofs.Common.{◌≡◌, refl, ℕ, zero, suc, ◌+◌, ◌-◌, ◌*◌, ◌<◌, ◌≤◌, ◌^◌, List, [], ◌∷◌, length, get_or, set, replicate, arith, sym, subst}
use Rattle.std.proofs.lemmas.List.{length-replicate, length-set}
use Rattle.pm_routes.specs.Routings.{total}
use Rattle.pm_routes.specs.Laid.{IsSummed}

pub total-replicate : (n : ℕ) → total (replicate n 0) ≡ 0
total-replicate zero = refl
total-replicate (suc n) = omega (arith, total-replicate n)

pub replicate-small : (n k : ℕ) → get_or (replicate n 0) k 0 < 2 ^ 64
replicate-small zero k = omega arith
replicate-small (suc n) zero = omega arith
replicate-small (suc n) (suc k) = replicate-small n k

pub total-others : (ns : List ℕ) (k : ℕ) → k < length ns → total (set ns k 0) + get_or ns k 0 ≡ total ns
total-others [] k h = absurd (omega (arith, h))
total-others (n ∷ ns) zero h = omega arith
total-others (n ∷ ns) (suc k) h = (let again = total-others ns k (omega (arith, h)) in omega (arith, again))

pub total-set : (ns : List ℕ) (k x : ℕ) → k < length ns → total (set ns k x) ≡ total (set ns k 0) + x
total-set [] k x h = absurd (omega (arith, h))
total-set (n ∷ ns) zero x h = omega arith
total-set (n ∷ ns) (suc k) x h = (let again = total-set ns k x (omega (arith, h)) in omega (arith, again))

pub small-set : (ns : List ℕ) (k x b : ℕ) → x < b → ((j : ℕ) → get_or ns j 0 < b) → (j : ℕ)
    → get_or (set ns k x) j 0 < b
small-set [] k x b h s j = s j
small-set (n ∷ ns) zero x b h s zero = h
small-set (n ∷ ns) zero x b h s (suc j) = s (suc j)
small-set (n ∷ ns) (suc k) x b h s zero = s zero
small-set (n ∷ ns) (suc k) x b h s (suc j) = small-set ns k x b h (λ i. s (suc i)) j

-- a sum of numbers of 64 bits
pub total-bound : (ns : List ℕ) → ((j : ℕ) → get_or ns j 0 < 2 ^ 64) → total ns ≤ length ns * (2 ^ 64 - 1)
total-bound [] s = omega arith
total-bound (n ∷ ns) s = (let first = s 0 in let again = total-bound ns (λ i. s (suc i)) in omega (arith, first, again))

pub summed-none : (n : ℕ) → n < 2 ^ 64 → IsSummed (replicate n 0) 0
summed-none n h = record {
  few = subst (λ m. m < 2 ^ 64) (sym (length-replicate n 0)) h;
  small = replicate-small n;
  sum = sym (total-replicate n);
}

pub ruleset no_counts_yet = (summed-none)

pub sum-others : (ns : List ℕ) (sum k : ℕ) → IsSummed ns sum → k < length ns → sum - get_or ns k 0 ≡ total (set ns k 0)
sum-others ns sum k s h = (let parts = total-others ns k h in let is = s.sum in omega (arith, parts, is))

pub sum-holds : (ns : List ℕ) (sum k : ℕ) → IsSummed ns sum → k < length ns → get_or ns k 0 ≤ sum
sum-holds ns sum k s h = (let parts = total-others ns k h in let is = s.sum in omega (arith, parts, is))

-- there is room for one more
pub sum-room : (ns : List ℕ) (sum : ℕ) → IsSummed ns sum → sum + 1 < 2 ^ 128
sum-room ns sum s = (let bound = total-bound ns s.small in let few = s.few in let is = s.sum in omega (arith, bound, few, is))

pub summed-set : (ns : List ℕ) (sum k x : ℕ) → IsSummed ns sum → k < length ns → x < 2 ^ 64 → get_or ns k 0 ≤ x
    → IsSummed (set ns k x) (sum + (x - get_or ns k 0))
summed-set ns sum k x s h low more =
    let parts = total-others ns k h in
    let now = total-set ns k x h in
    let is = s.sum in
    record {
      few = subst (λ m. m < 2 ^ 64) (sym (length-set ns k x)) s.few;
      small = small-set ns k x (2 ^ 64) low s.small;
      sum = omega (arith, parts, now, is, more);
    }
