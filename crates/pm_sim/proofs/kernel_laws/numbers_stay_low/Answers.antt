use Rattle.pm_sim.proofs.Kernel.{numbers_low}
use Rattle.pm_sim.proofs.kernel_laws.numbers_stay_low.Goals as goal

pub returns : goal.returns
returns c = record { low = numbers_low }
