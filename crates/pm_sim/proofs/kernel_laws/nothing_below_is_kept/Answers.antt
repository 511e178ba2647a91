use Rattle.pm_sim.proofs.Kernel.{nothing_below}
use Rattle.pm_sim.proofs.kernel_laws.nothing_below_is_kept.Goals as goal

pub returns : goal.returns
returns c = record { kept = nothing_below }
