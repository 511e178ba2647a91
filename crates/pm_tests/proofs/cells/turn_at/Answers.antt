use Rattle.pm_cell.specs.Helds.{views}
use Rattle.pm_cell.specs.Laws.{came_none}
use Rattle.pm_cell.specs.Stands.{CellCame}
use Rattle.pm_ends.proofs.Lists.{pairs_same}
use Rattle.pm_tests.proofs.Turns.{one_came}
use Rattle.pm_tests.proofs.cells.turn_at.Goals as goal

pub returns-then-at-cells : goal.returns-then-at-cells
returns-then-at-cells c =
    one_came c.args.cells.now c.args.at c.index-cells-at.result c.turn.new.self c.turn.ensures.follows

pub returns-else-at-cells : goal.returns-else-at-cells
returns-else-at-cells c = pairs_same CellCame came_none (views c.args.cells.now)
