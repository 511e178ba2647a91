use Rattle.std.proofs.Common.{◌≡◌, take}
use Rattle.pm_history.specs.Merged.{tags}
use Rattle.pm_history.proofs.merging.gather.Given as goal

abbrev pub invariant-loop-k : goal.invariant-loop-k
invariant-loop-k l = l.tagged.items ≡ tags (take l.k l.histories)
