use Rattle.pm_sim.proofs.Kernel.{least_law}
use Rattle.pm_sim.proofs.journal_laws.the_least_line.Goals as goal

pub returns : goal.returns
returns c = record { least = least_law }
