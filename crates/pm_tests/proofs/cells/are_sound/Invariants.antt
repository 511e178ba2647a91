use Rattle.std.proofs.Common.{take}
use Rattle.pm_cell.specs.Helds.{views}
use Rattle.pm_cell.specs.Stands.{AreSound}
use Rattle.pm_tests.proofs.cells.are_sound.Given as goal

abbrev pub invariant-loop-cell : goal.invariant-loop-cell
invariant-loop-cell l = AreSound (views (take l.cell-index l.cells))
