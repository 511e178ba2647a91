use Rattle.pm_calm.proofs.Goings.{lowest_steps}
use Rattle.pm_calm.proofs.laws.the_lowest_run_goes_on.Goals as goal

pub returns : goal.returns
returns c = record { steps = lowest_steps }
