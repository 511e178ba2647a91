use Rattle.pm_plan.specs.Plans.{parents}
use Rattle.pm_plan.proofs.Back.{path_back}
use Rattle.pm_plan.proofs.Valid.{valid_rooted, valid_inside}
use Rattle.pm_plan.proofs.laws.back_is_the_way_reversed.Goals as goal

pub returns : goal.returns
returns c =
    let plan = c.args.plan.now in
    path_back (parents plan.clps) (valid_rooted plan c.requires.valid) c.args.from c.args.to (valid_inside plan c.args.from c.requires.from) (valid_inside plan c.args.to c.requires.to)
