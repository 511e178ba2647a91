-- What the laws of an agent say.
use Rattle.std.specs.Prelude.{◌≡◌, ◌<◌, ◌≤◌, true, false, List, [], ◌∷◌, ◌++◌, Some}
use Rattle.pm_base.specs.declared.rows.GiveRow.{GiveRow}
use Rattle.pm_message.specs.declared.Message.{Message}
use Rattle.pm_message.specs.declared.Message.TheVariants as message
use Rattle.pm_saved.specs.Senses.{add_kept, answer, hits_eq, kept_turn}
use Rattle.pm_saved.specs.Spots.{Spot, find}
use Rattle.pm_saved.specs.Steps.{withdrawn}
use Rattle.pm_saved.specs.declared.kept.KeptSense.{KeptSense}
use Rattle.pm_saved.specs.declared.kept.KeptStep.{KeptStep}
use Rattle.pm_alp.specs.Agents.{Actor, Sends, agent_after}
use Rattle.pm_alp.specs.declared.agent.Agent.{Agent}

-- the sense of a place with one more hit
abbrev pub with_row : GiveRow → KeptSense → KeptSense
with_row r x = record x { hits = add_kept (record { var = r.var; turn = r.turn; hit = r.hit }) x.hits }

-- a hit changes what the complete sense at this place answered
pub record HitsBack (a : Agent) (r : GiveRow) (spot : Spot) : Type 0 where
  pub there : find r.num a.steps ≡ Some spot
  pub complete : spot.sense.complete ≡ true
  pub newer : kept_turn r.var spot.sense.hits < r.turn
  pub changes : hits_eq (answer (with_row r spot.sense).hits) (answer spot.sense.hits) ≡ false

-- after a rollback to this sense the steps before its step stay, and in its step the senses before it and it, and all
-- later ones are gone; first of all the writes from its step on were withdrawn
pub record IsBackAt (a : Agent) (spot : Spot) (x : KeptSense) (r : Sends) : Type 0 where
  pub base : r.agent.base ≡ a.base
  pub last : KeptStep
  pub steps : r.agent.steps ≡ spot.front ++ last ∷ []
  pub stamp : last.stamp ≡ spot.here.stamp
  pub anew : List KeptSense
  pub senses : last.senses ≡ spot.before ++ x ∷ anew
  pub new : List Message
  pub sent : r.sent ≡ withdrawn (spot.here ∷ spot.rest) ++ new

-- an agent's next number never falls
abbrev pub NumbersOnlyRise : Type 0
NumbersOnlyRise = (p : Actor) (a : Agent) (m : Message) → a.seq ≤ (agent_after p a m).agent.seq

-- a hit that changes an answer is a rollback to its sense
abbrev pub ChangesGoBack : Type 0
ChangesGoBack = (p : Actor) (a : Agent) (r : GiveRow) (spot : Spot) → HitsBack a r spot →
    IsBackAt a spot (with_row r spot.sense) (agent_after p a (message.Give r))
