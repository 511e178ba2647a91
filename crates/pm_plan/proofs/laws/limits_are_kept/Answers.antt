use Rattle.pm_plan.proofs.Valid.{valid_kept, valid_limits}
use Rattle.pm_plan.proofs.laws.limits_are_kept.Goals as goal

pub returns : goal.returns
returns c =
    let k = valid_kept c.args.plan.now c.requires in
    record { some = k.some; limits = valid_limits c.args.plan.now c.requires; classes = k.classes }
