-- A walk up the tree.
use Rattle.std.proofs.Common.{◌≡◌, ℕ, suc, ◌+◌, ◌-◌, ◌<◌, ◌≤◌, true, false, List, length, Option, Some, None, arith, ap, ◌∙◌}
use Rattle.std.proofs.lemmas.Bool.Decides.{nat_tests}
use Rattle.pm_plan.specs.Plans.{is_endless}
use Rattle.pm_plan.specs.Trees.{parent, ups}

-- the chain from c on, as far as it can tell: i of it are counted, and `at` comes next
pub ChainFrom : List (Option ℕ) → ℕ → ℕ → Option ℕ → Type 0
ChainFrom ps c i at = length (ups (suc (suc (length ps))) ps (Some c)) ≡ i + length (ups (suc (suc (length ps)) - i) ps at)

pub chain_begin : (ps : List (Option ℕ)) (c : ℕ) → ChainFrom ps c 0 (Some c)
unfolding ChainFrom
chain_begin ps c = let e : suc (suc (length ps)) - 0 ≡ suc (suc (length ps)) = omega arith in rw e (omega arith)

pub chain_more : (ps : List (Option ℕ)) (c i d : ℕ) → i < length ps + 2 → ChainFrom ps c i (Some d) → ChainFrom ps c (i + 1) (parent ps d)
unfolding ChainFrom
chain_more ps c i d lt h =
    let n : ℕ = suc (suc (length ps)) in
    let s : n - i ≡ suc (n - (i + 1)) = omega arith in
    let e : length (ups (n - i) ps (Some d)) ≡ suc (length (ups (n - (i + 1)) ps (parent ps d))) = ap (λ k. length (ups k ps (Some d))) s in
    h ∙ omega (arith, e)

pub chain_ends : (ps : List (Option ℕ)) (c i : ℕ) → i < length ps + 2 → ChainFrom ps c i None → false ≡ is_endless ps c
unfolding ChainFrom
chain_ends ps c i lt h =
    let m : ℕ = length (ups (suc (suc (length ps))) ps (Some c)) in
    let e : m ≡ i + 0 = h in
    grind (arith, nat_tests, e)

pub chain_never : (ps : List (Option ℕ)) (c i : ℕ) (at : Option ℕ) → length ps + 2 ≤ i → ChainFrom ps c i at → true ≡ is_endless ps c
unfolding ChainFrom
chain_never ps c i at le h =
    let m : ℕ = length (ups (suc (suc (length ps))) ps (Some c)) in
    let e : i ≤ m = omega (arith, h) in
    grind (arith, nat_tests, e)
