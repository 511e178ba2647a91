use Rattle.pm_step.proofs.StepLaws.{step-asks}
use Rattle.pm_step.proofs.laws.asks_while_senses_are_left.Goals as goal

pub returns : goal.returns
returns c = step-asks
