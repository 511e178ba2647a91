use Rattle.std.proofs.Common.{◌<◌, ap, arith, length}
use Rattle.std.proofs.lemmas.List.{length-map}
use Rattle.pm_plan.specs.Plans.{parents}
use Rattle.pm_plan.specs.Trees.{path, path_len}
use Rattle.pm_plan.proofs.Paths.{path_is, len_nearer, len_here, hop_in}
use Rattle.pm_plan.proofs.Valid.{valid_rooted, valid_kept}
use Rattle.pm_plan.proofs.Walks.{len_most}
use Rattle.pm_plan.proofs.plan.Plan.path_len.Goals as goal

pub overflow_add-edges : goal.overflow_add-edges
overflow_add-edges c =
    let ps = parents c.args.self.now.clps in
    let ok = valid_rooted c.args.self.now c.requires.valid in
    let l = length-map c.args.self.now.clps (λ r. r.parent) in
    let k = (valid_kept c.args.self.now c.requires.valid).clps in
    let a : c.args.a < length ps = omega (arith, l, c.requires.a) in
    let b : c.args.b < length ps = omega (arith, l, c.requires.b) in
    let m = len_most ps ok c.args.a c.args.b a b in
    let h = c.loop-at.invariant.count in
    omega (arith, l, k, m, h)

pub loop-at-smaller : goal.loop-at-smaller
loop-at-smaller c =
    let ps = parents c.args.self.now.clps in
    let ok = valid_rooted c.args.self.now c.requires.valid in
    let l = length-map c.args.self.now.clps (λ r. r.parent) in
    let at : c.loop-at.at < length ps = (let i = c.loop-at.invariant.inside in omega (arith, l, i)) in
    let b : c.args.b < length ps = omega (arith, l, c.requires.b) in
    let n = len_nearer ps ok c.loop-at.at c.args.b at b c.loop-at-test.true in
    let s = ap (λ x. path_len ps x c.args.b) c.hop-at.ensures.value in
    omega (arith, n, s)

pub loop-at-preserved : goal.loop-at-preserved
loop-at-preserved c =
    let ps = parents c.args.self.now.clps in
    let ok = valid_rooted c.args.self.now c.requires.valid in
    let l = length-map c.args.self.now.clps (λ r. r.parent) in
    let at : c.loop-at.at < length ps = (let i = c.loop-at.invariant.inside in omega (arith, l, i)) in
    let b : c.args.b < length ps = omega (arith, l, c.requires.b) in
    let n = len_nearer ps ok c.loop-at.at c.args.b at b c.loop-at-test.true in
    let s = ap (λ x. path_len ps x c.args.b) c.hop-at.ensures.value in
    let h = c.loop-at.invariant.count in
    let i = hop_in ps ok c.loop-at.at c.args.b at b c.loop-at-test.true in
    let v = c.hop-at.ensures.value in
    record { inside = omega (arith, i, l, v); count = omega (arith, n, s, h) }

pub returns-clause-path : goal.returns-clause-path
returns-clause-path c =
    let ps = parents c.args.self.now.clps in
    let ok = valid_rooted c.args.self.now c.requires.valid in
    let l = length-map c.args.self.now.clps (λ r. r.parent) in
    let a : c.args.a < length ps = omega (arith, l, c.requires.a) in
    let b : c.args.b < length ps = omega (arith, l, c.requires.b) in
    let z = len_here ps ok c.args.b in
    let s = ap (λ x. path_len ps x c.args.b) c.loop-at-test.false in
    let h = c.loop-at.invariant.count in
    (path ps c.args.a c.args.b, path_is ps ok c.args.a c.args.b a b, omega (arith, z, s, h))
