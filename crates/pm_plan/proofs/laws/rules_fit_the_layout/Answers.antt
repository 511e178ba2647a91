use Rattle.pm_plan.proofs.Valid.{valid_rules}
use Rattle.pm_plan.proofs.laws.rules_fit_the_layout.Goals as goal

pub returns : goal.returns
returns c = valid_rules c.args.plan.now c.requires
