use Rattle.pm_ends.specs.Ends.{AllGrew}
use Rattle.pm_cell.proofs.choosing.poll_all.Given as goal

abbrev pub invariant-loop-at : goal.invariant-loop-at
invariant-loop-at l = AllGrew l.fn.inns l.inns
