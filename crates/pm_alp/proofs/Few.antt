-- How many writes a step makes.
use Rattle.std.proofs.Common.{◌≡◌, sym, ap, ℕ, zero, suc, ◌<◌, ◌≤◌, ◌-◌, ◌^◌, List, length, slice_index_or, slice_get}
use Rattle.std.proofs.Common.{Some, arith}
use Rattle.std.proofs.lemmas.Option.{get_or_from_slice_get, slice_get_within}
use Rattle.pm_base.specs.declared.value.Write.{Write}
use Rattle.pm_step.specs.Steps.{IsRising}

-- a write's variable is no less than its place
pub place-low : (ws : List Write) (d : Write) → IsRising ws → (k : ℕ) → k < length ws → k ≤ (slice_index_or ws k d).var
place-low ws d rise zero lt = omega arith
place-low ws d rise (suc k) lt =
    let low : k ≤ (slice_index_or ws k d).var = place-low ws d rise k (omega arith) in
    let less : (slice_index_or ws k d).var < (slice_index_or ws (suc k) d).var = rise k (suc k) d (omega arith) lt in
    omega (arith, low, less)

-- so there are no more writes than numbers of variables
pub few : (ws : List Write) (w : Write) → IsRising ws → Some w ≡ slice_get ws (length ws - 1) → w.var < 2 ^ 32
    → length ws ≤ 2 ^ 32
few ws w rise e lt =
    let at : length ws - 1 < length ws = slice_get_within ws (length ws - 1) w (sym e) in
    let low : length ws - 1 ≤ (slice_index_or ws (length ws - 1) w).var = place-low ws w rise (length ws - 1) at in
    let same : (slice_index_or ws (length ws - 1) w).var
    ≡ w.var = ap (λ (v : Write). v.var) (get_or_from_slice_get ws (length ws - 1) w w (sym e)) in
    omega (arith, low, same, lt)
