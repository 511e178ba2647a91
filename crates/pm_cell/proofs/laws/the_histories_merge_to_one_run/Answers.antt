use Rattle.pm_cell.proofs.Merging.{histories_merge}
use Rattle.pm_cell.proofs.laws.the_histories_merge_to_one_run.Goals as goal

pub returns : goal.returns
returns c = record { law = histories_merge }
