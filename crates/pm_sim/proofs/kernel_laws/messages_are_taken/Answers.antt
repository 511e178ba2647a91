use Rattle.pm_sim.proofs.Kernel.{messages_taken}
use Rattle.pm_sim.proofs.kernel_laws.messages_are_taken.Goals as goal

pub returns : goal.returns
returns c = record { taken = messages_taken }
