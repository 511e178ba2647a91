use Rattle.pm_sim.proofs.Kernel.{waits_woken}
use Rattle.pm_sim.proofs.kernel_laws.who_waits_is_woken.Goals as goal

pub returns : goal.returns
returns c = record { woken = waits_woken }
