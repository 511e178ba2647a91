use Rattle.pm_cell.proofs.Commits.{commits_are}
use Rattle.pm_cell.proofs.laws.commits_are_the_worlds.Goals as goal

pub returns : goal.returns
returns c = record { law = commits_are }
