use Rattle.pm_plan.specs.Plans.{parents}
use Rattle.pm_plan.proofs.Paths.{hop_neighbour, len_neighbour}
use Rattle.pm_plan.proofs.Valid.{valid_rooted, valid_inside}
use Rattle.pm_plan.proofs.laws.neighbours_are_one_apart.Goals as goal

pub returns : goal.returns
returns c =
    let plan = c.args.plan.now in
    let ok = valid_rooted plan c.requires.valid in
    let from = valid_inside plan c.args.from c.requires.from in
    let to = valid_inside plan c.args.to c.requires.to in
    record { hop = (hop_neighbour (parents plan.clps) ok c.args.from c.args.to c.requires.edge).1; len = len_neighbour (parents plan.clps) ok c.args.from c.args.to from to c.requires.edge }
