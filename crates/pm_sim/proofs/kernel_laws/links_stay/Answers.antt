use Rattle.pm_sim.proofs.Kernel.{links_same}
use Rattle.pm_sim.proofs.kernel_laws.links_stay.Goals as goal

pub returns : goal.returns
returns c = record { links = links_same }
