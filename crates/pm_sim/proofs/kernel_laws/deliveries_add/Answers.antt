use Rattle.pm_sim.proofs.Kernel.{deliveries_add}
use Rattle.pm_sim.proofs.kernel_laws.deliveries_add.Goals as goal

pub returns : goal.returns
returns c = record { sum = deliveries_add }
