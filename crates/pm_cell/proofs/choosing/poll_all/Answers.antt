use Rattle.pm_ends.proofs.Laws.{all_grew_on, all_grew_same}
use Rattle.pm_cell.proofs.choosing.poll_all.Goals as goal

pub loop-at-init : goal.loop-at-init
loop-at-init c = all_grew_same c.args.inns.now

pub loop-at-preserved : goal.loop-at-preserved
loop-at-preserved c = all_grew_on c.args.inns.now c.loop-at.inns _ c.loop-at.invariant c.poll.ensures
