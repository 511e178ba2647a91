use Rattle.pm_sim.proofs.Kernel.{ready_somewhere}
use Rattle.pm_sim.proofs.kernel_laws.some_message_is_ready.Goals as goal

pub returns : goal.returns
returns c = record { ready = ready_somewhere }
