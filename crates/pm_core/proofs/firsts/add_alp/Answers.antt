use Rattle.std.proofs.Common.{arith}
use Rattle.pm_plan.proofs.Valid.{valid_horizon, valid_limits}
use Rattle.pm_core.proofs.firsts.add_alp.Goals as goal

pub first-requires-clause-layout : goal.first-requires-clause-layout
first-requires-clause-layout c = (valid_limits c.args.plan.now c.requires).layout

pub first-requires-clause-horizon : goal.first-requires-clause-horizon
first-requires-clause-horizon c = let h = valid_horizon c.args.plan.now c.requires in omega (arith, h)
