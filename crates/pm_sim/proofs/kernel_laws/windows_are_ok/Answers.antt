use Rattle.pm_sim.proofs.Kernel.{windows_ok}
use Rattle.pm_sim.proofs.kernel_laws.windows_are_ok.Goals as goal

pub returns : goal.returns
returns c = record { windows = windows_ok }
