use Rattle.std.proofs.Common.{drop}
use Rattle.pm_saved.specs.Steps.{cuts_of}
use Rattle.pm_saved.proofs.Cutting.{IsSending}
use Rattle.pm_saved.proofs.held.push_cuts.Given as goal

abbrev pub invariant-loop-at : goal.invariant-loop-at
invariant-loop-at l = IsSending (cuts_of l.stamp l.nums l.writes) (cuts_of l.stamp (drop l.at l.nums)
    (drop l.at l.writes)) l.fn.out l.out
