use Rattle.std.proofs.Common.{refl}
use Rattle.pm_cell.specs.Helds.{views}
use Rattle.pm_tests.proofs.Turns.{may_close, still_cells}
use Rattle.pm_tests.proofs.cells.play.Goals as goal

pub settle-requires : goal.settle-requires
settle-requires c = still_cells c.args.plan.now c.requires.valid (views c.args.cells.now) (views c.give-first.new.cells)
    c.requires.first c.give-first.ensures

pub commit-requires : goal.commit-requires
commit-requires c = may_close c.args.plan.now c.requires.valid (views c.args.cells.now) (views c.give-first.new.cells)
    c.requires.first c.give-first.ensures (views c.settle.new.cells) c.least-line.result
    (c.if-not-are_sound.ensures refl)
    c.settle.ensures.looked c.in_ok-settle.ensures.settled c.least-line.ensures
