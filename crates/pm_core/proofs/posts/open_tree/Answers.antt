use Rattle.std.proofs.Common.{◌<◌, ◌∙◌, arith}
use Rattle.pm_sim.specs.Worlds.{clps_of}
use Rattle.pm_core.proofs.FirstLaws.{tree_step}
use Rattle.pm_core.proofs.posts.open_tree.Goals as goal

pub loop-clp-preserved : goal.loop-clp-preserved
loop-clp-preserved c =
    let i = c.loop-clp.clp in
    let n = clps_of c.args.plan.now in
    let lt : i < n = omega (arith, c.loop-clp-test.true, c.loop-clp.auto.clp-end, c.len-clp-end.ensures) in
    rw (c.in_ok-open_from.ensures, c.as_slice.ensures, c.in_ok-from.ensures)
    (tree_step c.args.plan.now i n c.loop-clp.mail lt ∙ c.loop-clp.invariant)
