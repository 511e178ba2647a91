use Rattle.pm_calm.proofs.Endings.{part_commits}
use Rattle.pm_calm.proofs.laws.the_lowest_run_commits_the_sequential_run.Goals as goal

pub returns : goal.returns
returns c = record { sequential = part_commits }
