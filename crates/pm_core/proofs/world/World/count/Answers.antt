use Rattle.std.proofs.Common.{arith}
use Rattle.pm_plan.proofs.Valid.{valid_limits}
use Rattle.pm_core.proofs.world.World.count.Goals as goal

pub overflow_cast-result : goal.overflow_cast-result
overflow_cast-result c =
    let l = (valid_limits c.self.inside.processes.plan.now c.self.invariant.valid).clps in
    omega (arith, l, c.len.ensures)

pub overflow_cast-result-2 : goal.overflow_cast-result-2
overflow_cast-result-2 c =
    let l = (valid_limits c.self.inside.processes.plan.now c.self.invariant.valid).agents in
    omega (arith, l, c.len-2.ensures)

pub overflow_add-result : goal.overflow_add-result
overflow_add-result c =
    let k = valid_limits c.self.inside.processes.plan.now c.self.invariant.valid in
    let a = k.clps in
    let b = k.agents in
    omega (arith, a, b, c.len.ensures, c.len-2.ensures)
