use Rattle.pm_calm.proofs.Runs.{part_calm}
use Rattle.pm_calm.proofs.laws.the_lowest_run_never_rolls_back.Goals as goal

pub returns : goal.returns
returns c = record { calm = part_calm }
