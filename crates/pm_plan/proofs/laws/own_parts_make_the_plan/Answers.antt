use Rattle.pm_plan.proofs.Own.{own_few, own_rules, own_made}
use Rattle.pm_plan.proofs.laws.own_parts_make_the_plan.Goals as goal

pub returns : goal.returns
returns c =
    let plan = c.args.plan.now in
    record { few = own_few plan c.requires; rules = own_rules plan c.requires; made = own_made plan c.requires }
