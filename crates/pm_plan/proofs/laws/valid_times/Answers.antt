use Rattle.pm_plan.proofs.Valid.{valid_start}
use Rattle.pm_plan.proofs.laws.valid_times.Goals as goal

pub returns : goal.returns
returns c = valid_start c.args.plan.now c.requires
