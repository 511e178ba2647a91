use Rattle.pm_cell.specs.Helds.{views}
use Rattle.pm_cell.specs.Laws.{came_next, came_none}
use Rattle.pm_cell.specs.Stands.{CellCame}
use Rattle.pm_ends.proofs.Lists.{pairs_on, pairs_same}
use Rattle.pm_tests.proofs.cells.give.Goals as goal

pub loop-at-init : goal.loop-at-init
loop-at-init c = pairs_same CellCame came_none (views c.args.cells.now)

pub loop-at-preserved : goal.loop-at-preserved
loop-at-preserved c = pairs_on CellCame came_next (views c.args.cells.now) (views c.loop-at.cells)
    (views c.turn_at.new.cells) c.loop-at.invariant c.turn_at.ensures
