use Rattle.pm_model.proofs.Retired.{turn-none}
use Rattle.pm_model.proofs.all_are_retired.Goals as goal

pub returns : goal.returns
returns c = turn-none
