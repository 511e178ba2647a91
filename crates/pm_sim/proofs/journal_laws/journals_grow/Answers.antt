use Rattle.pm_sim.proofs.Kernel.{journal_grows, no_journal}
use Rattle.pm_sim.proofs.journal_laws.journals_grow.Goals as goal

pub returns : goal.returns
returns c = record { none = no_journal; more = journal_grows }
