use Rattle.pm_sim.proofs.ReachedWorlds.{reached_on}
use Rattle.pm_sim.proofs.reached.events_reach_on.Goals as goal

pub returns : goal.returns
returns c = record { reached = reached_on }
