use Rattle.std.proofs.Common.{◌≡◌, ℕ, ◌<◌, false, get_or, None}
use Rattle.pm_clp.specs.Laid.{in_set}
use Rattle.pm_clp.proofs.records.taken.Given as goal

abbrev pub invariant-loop-v : goal.invariant-loop-v
invariant-loop-v l = (w : ℕ) → w < l.v → in_set l.here w ≡ false → get_or l.each w None ≡ None
