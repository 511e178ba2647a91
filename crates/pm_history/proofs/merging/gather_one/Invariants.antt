use Rattle.std.proofs.Common.{◌≡◌, ◌++◌, map, take}
use Rattle.pm_history.specs.Merged.{tag}
use Rattle.pm_history.proofs.merging.gather_one.Given as goal

abbrev pub invariant-loop-heard : goal.invariant-loop-heard
invariant-loop-heard l =
    l.tagged.items ≡ l.fn.tagged.items ++ map (tag l.history.process) (take l.heard-index l.history.heard)
