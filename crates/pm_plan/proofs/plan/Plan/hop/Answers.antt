use Rattle.std.proofs.Common.{◌≡◌, ◌<◌, ◌∙◌, ap, sym, subst, arith, ℕ, List, ◌∷◌, length}
use Rattle.std.specs.Prelude.{unwrap_or}
use Rattle.std.proofs.lemmas.List.{length-map}
use Rattle.pm_plan.specs.Plans.{parents}
use Rattle.pm_plan.specs.Trees.{hop, IsPath}
use Rattle.pm_plan.proofs.Paths.{path_hop}
use Rattle.pm_plan.proofs.Rooted.{Rooted}
use Rattle.pm_plan.proofs.Valid.{valid_rooted}
use Rattle.pm_plan.proofs.Walks.{reach_begin, reach_more, reach_found, reach_root, height_less}
use Rattle.pm_plan.proofs.plan.Plan.hop.Goals as goal

pub loop-above-init : goal.loop-above-init
loop-above-init c = reach_begin _ _ _

pub loop-above-preserved : goal.loop-above-preserved
loop-above-preserved c =
    let clps = c.as_slice-clps.result.now in
    let ok : Rooted (parents clps) = subst (λ z. Rooted (parents z)) (sym c.as_slice-clps.ensures) (valid_rooted c.args.self.now c.requires.valid) in
    reach_more (parents clps) ok c.args.from c.args.to c.loop-above.below c.in-Some.above (sym c.parent_of.ensures ∙ c.in-Some.is) c.if-above-from.false c.loop-above.invariant

pub loop-above-smaller : goal.loop-above-smaller
loop-above-smaller c =
    let clps = c.as_slice-clps.result.now in
    let ok : Rooted (parents clps) = subst (λ z. Rooted (parents z)) (sym c.as_slice-clps.ensures) (valid_rooted c.args.self.now c.requires.valid) in
    height_less (parents clps) ok c.loop-above.below c.in-Some.above (sym c.parent_of.ensures ∙ c.in-Some.is)

pub returns-then-above-from-clause-value : goal.returns-then-above-from-clause-value
returns-then-above-from-clause-value c =
    let clps = c.as_slice-clps.result.now in
    let ok : Rooted (parents clps) = subst (λ z. Rooted (parents z)) (sym c.as_slice-clps.ensures) (valid_rooted c.args.self.now c.requires.valid) in
    reach_found (parents clps) ok c.args.from c.args.to c.loop-above.below c.in-Some.above (sym c.parent_of.ensures ∙ c.in-Some.is) c.if-above-from.true c.loop-above.invariant
    ∙ ap (λ z. hop (parents z) c.args.from c.args.to) c.as_slice-clps.ensures

pub returns-then-above-from-clause-path : goal.returns-then-above-from-clause-path
returns-then-above-from-clause-path c =
    let ps = parents c.args.self.now.clps in
    let l = length-map c.args.self.now.clps (λ r. r.parent) in
    let from : c.args.from < length ps = omega (arith, l, c.requires.from) in
    let to : c.args.to < length ps = omega (arith, l, c.requires.to) in
    subst (λ h. (rest : List ℕ) × IsPath ps c.args.from c.args.to (h ∷ rest)) (sym (returns-then-above-from-clause-value c))
    (path_hop ps (valid_rooted c.args.self.now c.requires.valid) c.args.from c.args.to from to c.requires.apart)

pub returns-clause-value : goal.returns-clause-value
returns-clause-value c =
    let clps = c.as_slice-clps.result.now in
    let ok : Rooted (parents clps) = subst (λ z. Rooted (parents z)) (sym c.as_slice-clps.ensures) (valid_rooted c.args.self.now c.requires.valid) in
    let up : c.unwrap_or.result ≡ hop (parents clps) c.args.from c.args.to = c.unwrap_or.ensures ∙ (ap (λ o. unwrap_or o c.args.from) c.parent_of-2.ensures
    ∙ reach_root (parents clps) ok c.args.from c.args.to c.loop-above.below (sym c.parent_of.ensures ∙ c.in_default.is) c.loop-above.invariant) in
    up ∙ ap (λ z. hop (parents z) c.args.from c.args.to) c.as_slice-clps.ensures

pub returns-clause-path : goal.returns-clause-path
returns-clause-path c =
    let ps = parents c.args.self.now.clps in
    let l = length-map c.args.self.now.clps (λ r. r.parent) in
    let from : c.args.from < length ps = omega (arith, l, c.requires.from) in
    let to : c.args.to < length ps = omega (arith, l, c.requires.to) in
    subst (λ h. (rest : List ℕ) × IsPath ps c.args.from c.args.to (h ∷ rest)) (sym (returns-clause-value c))
    (path_hop ps (valid_rooted c.args.self.now c.requires.valid) c.args.from c.args.to from to c.requires.apart)
