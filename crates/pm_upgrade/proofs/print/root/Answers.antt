use Rattle.std.proofs.Common.{arith}
use Rattle.pm_plan.proofs.Valid.{valid_horizon}
use Rattle.pm_upgrade.proofs.print.root.Goals as goal

pub put_count-requires-2 : goal.put_count-requires-2
put_count-requires-2 c = (let early = valid_horizon c.args.plan.now c.requires.valid in omega (arith, early))
