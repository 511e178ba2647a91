use Rattle.std.proofs.Common.{◌≡◌, ◌<◌, ◌∙◌, ap, arith, get_or, length, map, subst, sym}
use Rattle.std.proofs.lemmas.List.{get_or-map}
use Rattle.pm_plan.specs.declared.plan.AgentRow.{AgentRow}
use Rattle.pm_plan.proofs.Valid.{valid_agent, valid_limits}
use Rattle.pm_core.proofs.tree.to_agents.Goals as goal

pub overflow_cast-agent : goal.overflow_cast-agent
overflow_cast-agent c =
    let l = (valid_limits c.args.plan.now c.requires.valid).agents in
    let e = ap length c.as_slice-row-items.ensures in omega (arith, l, e, c.loop-agent-test.true)

pub towards-requires-clause-home : goal.towards-requires-clause-home
towards-requires-clause-home c =
    let i = c.loop-agent.agent in
    let rows = c.args.plan.now.agents in
    let x = c.row-item.result in
    let e = ap length c.as_slice-row-items.ensures in
    let lt : i < length rows = omega (arith, e, c.loop-agent-test.true) in
    let is : x ≡ get_or rows i x = c.row-item.is ∙ ap (λ z. get_or z i x) c.as_slice-row-items.ensures in
    let h : get_or (map (λ (r : AgentRow). r.home) rows) i 0 ≡ x.home =
    get_or-map (λ (r : AgentRow). r.home) rows i x 0 lt ∙ ap (λ (r : AgentRow). r.home) (sym is) in
    subst (λ z. z < length c.args.plan.now.clps) h (valid_agent c.args.plan.now c.requires.valid i lt)
