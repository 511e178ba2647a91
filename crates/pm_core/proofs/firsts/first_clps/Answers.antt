use Rattle.std.proofs.Common.{◌<◌, ◌∙◌, arith}
use Rattle.pm_plan.proofs.Valid.{valid_limits}
use Rattle.pm_sim.specs.Worlds.{clps_of}
use Rattle.pm_core.proofs.FirstLaws.{clps_step}
use Rattle.pm_core.proofs.firsts.first_clps.Goals as goal

pub overflow_cast-clp : goal.overflow_cast-clp
overflow_cast-clp c =
    let l = (valid_limits c.args.plan.now c.requires).clps in
    omega (arith, l, c.loop-clp-test.true, c.loop-clp.auto.clp-end, c.len-clp-end.ensures)

pub loop-clp-preserved : goal.loop-clp-preserved
loop-clp-preserved c =
    let i = c.loop-clp.clp in
    let n = clps_of c.args.plan.now in
    let lt : i < n = omega (arith, c.loop-clp-test.true, c.loop-clp.auto.clp-end, c.len-clp-end.ensures) in
    rw (c.in_ok-push.ensures.items, c.in_ok-first_clp.ensures)
    (clps_step c.args.plan.now i n c.loop-clp.all.items lt ∙ c.loop-clp.invariant)
