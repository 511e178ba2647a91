use Rattle.pm_sim.proofs.Promised.{committed-stays}
use Rattle.pm_sim.proofs.theorem.prefix.Goals as goal

pub returns : goal.returns
returns c = record { stays = committed-stays }
