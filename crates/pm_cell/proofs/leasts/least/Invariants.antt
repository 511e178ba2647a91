use Rattle.std.proofs.Common.{take}
use Rattle.pm_cell.specs.Leasts.{stamps_of}
use Rattle.pm_cell.proofs.Leasting.{AllRise, IsLow}
use Rattle.pm_cell.proofs.leasts.least.Given as goal

abbrev pub invariant-loop-cell : goal.invariant-loop-cell
invariant-loop-cell l = IsLow l.least (stamps_of (take l.cell-index l.cells)) × AllRise (take l.cell-index l.cells)
