use Rattle.pm_saved.proofs.KeptLaws.{withdrawn-append}
use Rattle.pm_saved.proofs.laws.steps_are_withdrawn_one_by_one.Goals as goal

pub returns : goal.returns
returns c = withdrawn-append
