use Rattle.pm_plan.specs.Plans.{parents}
use Rattle.pm_plan.proofs.Paths.{either, not_both}
use Rattle.pm_plan.proofs.Valid.{valid_rooted, valid_inside}
use Rattle.pm_plan.proofs.laws.one_of_two_neighbours.Goals as goal

pub returns : goal.returns
returns c =
    let plan = c.args.plan.now in
    let ok = valid_rooted plan c.requires.valid in
    let one = valid_inside plan c.args.one c.requires.one in
    let other = valid_inside plan c.args.other c.requires.other in
    let to = valid_inside plan c.args.to c.requires.to in
    record { either = either (parents plan.clps) ok c.args.one c.args.other c.args.to c.requires.edge; not_both = not_both (parents plan.clps) ok c.args.one c.args.other c.args.to one other to }
