use Rattle.pm_plan.proofs.Valid.{valid_var, valid_agent}
use Rattle.pm_plan.proofs.laws.places_exist.Goals as goal

pub returns : goal.returns
returns c = record { vars = valid_var c.args.plan.now c.requires; agents = valid_agent c.args.plan.now c.requires }
