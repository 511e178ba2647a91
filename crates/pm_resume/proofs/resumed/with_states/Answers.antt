use Rattle.std.proofs.Common.{◌≡◌, ◌<◌, List, ap, arith, get_or, length, subst}
use Rattle.pm_plan.specs.declared.plan.AgentRow.{AgentRow}
use Rattle.pm_resume.proofs.Pairs.{pair_item, so_far}
use Rattle.pm_resume.specs.Cuts.{with_state}
use Rattle.pm_resume.proofs.resumed.with_states.Goals as goal

pub loop-number-preserved : goal.loop-number-preserved
loop-number-preserved c =
    let agents = c.args.plan.now.agents in
    let same : c.as_slice-row-items.result.now ≡ agents = c.as_slice-row-items.ensures in
    let row = c.row-item.result in
    let at : row ≡ get_or agents c.loop-number.number row = subst (λ (xs : List AgentRow). row ≡ get_or xs c.loop-number.number row) same c.row-item.is in
    let lt : c.loop-number.number < length agents = (let e = ap length same in omega (arith, e)) in
    so_far c.loop-number.all c.push.new.self _ _ _ c.in_ok-with_state.field-0 c.loop-number.invariant
    (pair_item (with_state c.args.plan.now) agents c.args.seq.now.state.agents c.loop-number.number row c.in_ok-with_state.field-0 lt c.requires.count at
    c.in_ok-with_state.ensures)
    c.in_ok-push.ensures.ok
