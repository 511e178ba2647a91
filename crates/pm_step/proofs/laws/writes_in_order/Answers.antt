use Rattle.pm_step.proofs.StepLaws.{step-rises}
use Rattle.pm_step.proofs.laws.writes_in_order.Goals as goal

pub returns : goal.returns
returns c = step-rises
