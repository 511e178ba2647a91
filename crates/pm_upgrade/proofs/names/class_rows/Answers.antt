use Rattle.std.proofs.Common.{◌∙◌, ◌≤◌, ◌<◌, ◌∷◌, ◌++◌, [], ℕ, List, ap, ap₂, sym, subst, arith, length}
use Rattle.pm_base.specs.declared.layout.ClassRow.{ClassRow}
use Rattle.pm_upgrade.proofs.Listed.{past-rows, zip-cut, zip-end, zip-more}
use Rattle.pm_upgrade.proofs.names.class_rows.Goals as goal

pub loop-i-preserved : goal.loop-i-preserved
loop-i-preserved c =
    let all = c.as_slice-name-items.ensures in
    let lt : c.loop-i.i < length c.args.plan.now.classes = rw all at c.loop-i-test.true in
    let is = rw all at c.name-item.is in
    c.in_ok-push.ensures.ok
    ∙ ap₂ (λ (xs : List (List ℕ × ClassRow)) (n : List ℕ). xs ++ (n, c.in-Some.class.now) ∷ []) c.loop-i.invariant c.in_ok-copy.ensures
    ∙ sym (zip-more c.args.plan.now.classes c.args.plan.now.layout.classes c.loop-i.i c.name-item.result c.in-Some.class.now lt is (sym c.in-Some.ensures.value))

pub returns-in_default : goal.returns-in_default
returns-in_default c =
    c.loop-i.invariant
    ∙ zip-cut c.args.plan.now.classes c.args.plan.now.layout.classes c.loop-i.i (past-rows c.args.plan.now.layout.classes c.loop-i.i (sym c.in_default.ensures.value))

pub returns : goal.returns
returns c =
    let past : length c.args.plan.now.classes ≤ c.loop-i.i = rw c.as_slice-name-items.ensures at c.loop-i-test.false in
    c.loop-i.invariant ∙ zip-end c.args.plan.now.classes c.args.plan.now.layout.classes c.loop-i.i past
