use Rattle.std.proofs.Common.{ap, arith, length}
use Rattle.pm_plan.proofs.Valid.{valid_limits}
use Rattle.pm_core.proofs.firsts.alps_and_wakes.Goals as goal

pub overflow_cast-i : goal.overflow_cast-i
overflow_cast-i c =
    let l = (valid_limits c.args.plan.now c.requires).agents in
    let e = ap length c.as_slice-row-items.ensures in omega (arith, l, e, c.loop-i-test.true)
