use Rattle.pm_sim.proofs.Promised.{committed-sequential}
use Rattle.pm_sim.proofs.theorem.simulation.Goals as goal

pub returns : goal.returns
returns c = record { committed = committed-sequential }
