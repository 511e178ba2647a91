use Rattle.pm_gen.proofs.Refusals.{makes_plan}
use Rattle.pm_gen.proofs.laws.every_scenario_is_a_plan.Goals as goal

pub returns : goal.returns
returns c = makes_plan
