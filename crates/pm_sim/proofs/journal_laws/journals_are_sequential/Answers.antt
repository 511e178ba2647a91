use Rattle.pm_sim.proofs.Kernel.{journal_law}
use Rattle.pm_sim.proofs.journal_laws.journals_are_sequential.Goals as goal

pub returns : goal.returns
returns c = record { law = journal_law }
