use Rattle.pm_upgrade.proofs.SmallPlans.{read-low}
use Rattle.pm_upgrade.proofs.laws.read_plans_can_be_printed.Goals as goal

pub returns : goal.returns
returns c = read-low c.args.bytes.now c.args.plan.now c.requires
