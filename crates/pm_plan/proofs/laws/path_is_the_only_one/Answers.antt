use Rattle.pm_plan.specs.Plans.{parents}
use Rattle.pm_plan.proofs.Paths.{path_is, path_only}
use Rattle.pm_plan.proofs.Valid.{valid_rooted, valid_inside}
use Rattle.pm_plan.proofs.laws.path_is_the_only_one.Goals as goal

pub returns : goal.returns
returns c =
    let plan = c.args.plan.now in
    let ok = valid_rooted plan c.requires.valid in
    let from = valid_inside plan c.args.from c.requires.from in
    let to = valid_inside plan c.args.to c.requires.to in
    record { path = path_is (parents plan.clps) ok c.args.from c.args.to from to; only = λ xs p. path_only (parents plan.clps) ok c.args.from c.args.to xs from to p }
