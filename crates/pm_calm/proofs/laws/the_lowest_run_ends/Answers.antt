use Rattle.pm_calm.proofs.Endings.{lowest_ends}
use Rattle.pm_calm.proofs.laws.the_lowest_run_ends.Goals as goal

pub returns : goal.returns
returns c = record { ends = lowest_ends }
