use Rattle.pm_sim.proofs.Rows.{first_commit_is, two_commits_are, two_commits_legal}
use Rattle.pm_sim.proofs.worked.two_commits.Goals as goal

pub returns : goal.returns
returns c = record { legal = two_commits_legal; first = first_commit_is; both = two_commits_are }
