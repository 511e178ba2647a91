use Rattle.pm_plan.specs.Plans.{parents}
use Rattle.pm_plan.proofs.Paths.{len_between}
use Rattle.pm_plan.proofs.Valid.{valid_rooted, valid_inside}
use Rattle.pm_plan.proofs.laws.lengths_add.Goals as goal

pub returns : goal.returns
returns c =
    let plan = c.args.plan.now in
    len_between (parents plan.clps) (valid_rooted plan c.requires.valid) c.args.from c.args.to c.args.by (valid_inside plan c.args.from c.requires.from) (valid_inside plan c.args.to c.requires.to) c.requires.on
