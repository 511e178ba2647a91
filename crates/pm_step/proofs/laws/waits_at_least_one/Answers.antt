use Rattle.pm_step.proofs.StepLaws.{step-waits}
use Rattle.pm_step.proofs.laws.waits_at_least_one.Goals as goal

pub returns : goal.returns
returns c = step-waits
