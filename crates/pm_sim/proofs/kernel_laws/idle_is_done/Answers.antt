use Rattle.pm_sim.proofs.Kernel.{idle_is_done}
use Rattle.pm_sim.proofs.kernel_laws.idle_is_done.Goals as goal

pub returns : goal.returns
returns c = record { done = idle_is_done }
