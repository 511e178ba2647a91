use Rattle.std.proofs.Common.{arith}
use Rattle.pm_plan.proofs.Valid.{valid_limits}
use Rattle.pm_core.proofs.tree.towards.Goals as goal

pub overflow_cast-result : goal.overflow_cast-result
overflow_cast-result c =
    let l = (valid_limits c.args.plan.now c.requires.valid).clps in omega (arith, l, c.len.ensures)

pub overflow_add-result : goal.overflow_add-result
overflow_add-result c =
    let h = valid_limits c.args.plan.now c.requires.valid in
    let l = h.clps in let a = h.agents in let lt = c.requires.agent in omega (arith, l, a, lt, c.len.ensures)
