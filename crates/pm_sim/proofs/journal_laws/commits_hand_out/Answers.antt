use Rattle.pm_sim.proofs.Kernel.{commit_law}
use Rattle.pm_sim.proofs.journal_laws.commits_hand_out.Goals as goal

pub returns : goal.returns
returns c = record { handed = commit_law }
