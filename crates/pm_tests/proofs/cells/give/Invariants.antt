use Rattle.pm_cell.specs.Helds.{views}
use Rattle.pm_cell.specs.Stands.{CellCame}
use Rattle.pm_ends.specs.Numbers.{Pairs}
use Rattle.pm_tests.proofs.cells.give.Given as goal

abbrev pub invariant-loop-at : goal.invariant-loop-at
invariant-loop-at l = Pairs CellCame (views l.initial.cells) (views l.cells)
