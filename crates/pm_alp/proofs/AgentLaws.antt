-- The laws of the agent's table.
use Rattle.std.proofs.Common.{◌≡◌, refl, ap, ◌∙◌, ◌≤◌, true, nat_le, Some, arith}
use Rattle.std.proofs.lemmas.Bool.Decides.{nat_tests}
use Rattle.pm_base.specs.declared.rows.GiveRow.{GiveRow}
use Rattle.pm_message.specs.declared.Message.TheVariants as message
use Rattle.pm_saved.specs.Senses.{kept_turn}
use Rattle.pm_saved.specs.Spots.{Spot, find}
use Rattle.pm_alp.specs.Agents.{Actor, agent_after, no_sends, on_give}
use Rattle.pm_alp.specs.declared.agent.Agent.{Agent}

pub give-older : (p : Actor) (a : Agent) (r : GiveRow) (spot : Spot) → find r.num a.steps ≡ Some spot
    → r.turn ≤ kept_turn r.var spot.sense.hits
    → agent_after p a (message.Give r) ≡ no_sends a
give-older p a r spot found older =
    let h : nat_le r.turn (kept_turn r.var spot.sense.hits) ≡ true = grind (arith, nat_tests) in
    ap (on_give p a r) found ∙ rw h refl
