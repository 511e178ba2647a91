use Rattle.std.proofs.Common.{◌≡◌, length, take}
use Rattle.pm_cell.specs.Committings.{ready_in}
use Rattle.pm_cell.proofs.committing.count_ready.Given as goal

abbrev pub invariant-loop-cell : goal.invariant-loop-cell
invariant-loop-cell l = l.count ≡ length (ready_in l.line (take l.cell-index l.cells))
