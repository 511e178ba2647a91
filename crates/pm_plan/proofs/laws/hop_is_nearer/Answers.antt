use Rattle.std.proofs.Common.{arith}
use Rattle.pm_plan.specs.Plans.{parents}
use Rattle.pm_plan.proofs.Paths.{hop_edge, len_nearer}
use Rattle.pm_plan.proofs.Valid.{valid_rooted, valid_inside}
use Rattle.pm_plan.proofs.laws.hop_is_nearer.Goals as goal

pub returns : goal.returns
returns c =
    let plan = c.args.plan.now in
    let ok = valid_rooted plan c.requires.valid in
    let from = valid_inside plan c.args.from c.requires.from in
    let to = valid_inside plan c.args.to c.requires.to in
    let n = len_nearer (parents plan.clps) ok c.args.from c.args.to from to c.requires.apart in
    record { edge = hop_edge (parents plan.clps) ok c.args.from c.args.to from to c.requires.apart; nearer = omega (arith, n) }
