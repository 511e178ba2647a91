use Rattle.std.proofs.Common.{ap, arith, length}
use Rattle.pm_plan.proofs.Valid.{valid_limits}
use Rattle.pm_core.proofs.firsts.first_alps.Goals as goal

pub overflow_cast-agent : goal.overflow_cast-agent
overflow_cast-agent c =
    let l = (valid_limits c.args.plan.now c.requires).agents in
    let e = ap length c.as_slice-row-items.ensures in omega (arith, l, e, c.loop-i-test.true)

pub open_agent-requires : goal.open_agent-requires
open_agent-requires c =
    let h = valid_limits c.args.plan.now c.requires in
    let l = h.agents in let n = h.clps in
    let e = ap length c.as_slice-row-items.ensures in omega (arith, l, n, e, c.loop-i-test.true)
