use Rattle.std.proofs.Common.{◌∙◌, ◌<◌, arith, length}
use Rattle.pm_plan.specs.Plans.{parents}
use Rattle.pm_core.proofs.Loops.{edges_more}
use Rattle.pm_core.proofs.tree.ports.Goals as goal

pub loop-other-preserved : goal.loop-other-preserved
loop-other-preserved c =
    let ps = parents c.args.plan.now.clps in
    let i = c.loop-other.other in
    let n = length c.args.plan.now.clps in
    let lt : i < n = omega (arith, c.loop-other-test.true, c.loop-other.auto.other-end, c.len-other-end.ensures) in
    rw (c.in_ok-add_if.ensures, c.is_edge.ensures)
    (edges_more ps c.args.clp i n c.loop-other.found lt ∙ c.loop-other.invariant)
