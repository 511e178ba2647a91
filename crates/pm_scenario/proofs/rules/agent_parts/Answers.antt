use Rattle.std.proofs.Common.{◌∙◌, ap, arith, length}
use Rattle.std.proofs.lemmas.Grind.{common_steps}
use Rattle.std.proofs.lemmas.Iterator.Adapters.{YieldsList-from_vec}
use Rattle.std.proofs.lemmas.Iterator.Consumers.{YieldsList-turn}
use Rattle.pm_scenario.proofs.Walks.{agents_more}
use Rattle.pm_scenario.proofs.rules.agent_parts.Goals as goal

pub loop-agent-preserved : goal.loop-agent-preserved
loop-agent-preserved c =
    let all = c.args.agents in
    let xs = c.loop-agent.yielded in
    let x = c.in-Some.agent in
    let gives = c.into_iter-agent-iterator.ensures.into_iter_gives in
    let road = YieldsList-from_vec all (gives.0 ∙ c.into_vec-agent-items.ensures) (let e = ap length c.into_vec-agent-items.ensures in let ok = c.into_vec-agent-items.result.ok in omega (arith, gives.1, ok, e)) in
    let turn = YieldsList-turn road xs c.loop-agent.agent-iterator c.loop-agent.yielded_by c.next.result c.next.new.self x c.in-Some.is c.next.ensures.steps in
    record {
      count = grind (arith, common_steps);
      same = c.loop-agent.invariant.same ∙ agents_more c.args.names.now c.args.version c.loop-agent.index all x c.in_ok-part.part c.loop-agent.parts (omega (arith, turn.0, c.loop-agent.invariant.count)) (rw c.loop-agent.invariant.count turn.1) (grind (arith, common_steps)) ∙ grind (arith, common_steps);
      fit = grind (arith, common_steps);
    }
