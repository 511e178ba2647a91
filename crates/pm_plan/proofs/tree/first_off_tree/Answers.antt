use Rattle.std.proofs.Common.{◌≡◌, ◌<◌, ◌+◌, ap, sym, ◌∙◌, arith, length, take, refl, ◌||◌}
use Rattle.std.specs.List.{list_any}
use Rattle.std.specs.Prelude.{is_none}
use Rattle.std.proofs.lemmas.List.{length-map}
use Rattle.pm_plan.specs.Plans.{parents, first_off_tree}
use Rattle.pm_plan.proofs.Firsts.{none_from_some}
use Rattle.pm_plan.proofs.Leasts.{least_begin, least_skip, least_here, least_end}
use Rattle.pm_plan.proofs.Roots.{root_more, parent_at}
use Rattle.pm_plan.specs.Trees.{parent}
use Rattle.pm_plan.proofs.tree.first_off_tree.Goals as goal
use Rattle.pm_plan.proofs.tree.first_off_tree.Goals.{then-root_before, else-root_before}

pub loop-i-init : goal.loop-i-init
loop-i-init c = record { none_below = least_begin _ _; root = refl }

pub loop-i-preserved : goal.loop-i-preserved
loop-i-preserved c =
    let ps = parents c.args.clps.now in
    let i = c.loop-i.i in
    let lt : i < length ps = (let l = length-map c.args.clps.now (λ r. r.parent) in omega (arith, l)) in
    let m : (c.loop-i.root_before || is_none (parent ps i)) ≡ list_any is_none (take (i + 1) ps) = root_more ps i c.loop-i.root_before lt c.loop-i.invariant.root in
    let e : parent ps i ≡ c.index-clps-i.result.parent = parent_at c.args.clps.now i c.index-clps-i.result (omega arith) c.index-clps-i.is in
    record {
      none_below = least_skip _ _ _ lt (sym c.is_off_tree.ensures ∙ c.if-is_off_tree.false) c.loop-i.invariant.none_below;
      root = elim c.if-root_before.branch [
        | then-root_before w ↦ w.root_before-is ∙ (w.if-root_before.true ∙ (sym (ap (λ x. x || is_none (parent ps i)) w.if-root_before.true) ∙ m))
        | else-root_before w ↦ w.root_before-is ∙ (none_from_some _ _ w.is_none-root_before.ensures ∙ (ap is_none (sym e) ∙ (sym (ap (λ x. x || is_none (parent ps i)) w.if-root_before.false) ∙ m)))
      ];
    }

pub returns-then-is_off_tree : goal.returns-then-is_off_tree
unfolding first_off_tree
returns-then-is_off_tree c = least_here _ _ _ (let l = length-map c.args.clps.now (λ r. r.parent) in omega (arith, l)) (sym c.is_off_tree.ensures ∙ c.if-is_off_tree.true) c.loop-i.invariant.none_below

pub returns : goal.returns
unfolding first_off_tree
returns c = least_end _ _ _ (let l = length-map c.args.clps.now (λ r. r.parent) in omega (arith, l)) c.loop-i.invariant.none_below
