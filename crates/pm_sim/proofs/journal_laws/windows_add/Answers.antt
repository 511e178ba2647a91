use Rattle.pm_sim.proofs.Kernel.{windows_stay}
use Rattle.pm_sim.proofs.journal_laws.windows_add.Goals as goal

pub returns : goal.returns
returns c = record { window = windows_stay }
