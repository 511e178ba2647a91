use Rattle.std.proofs.Common.{◌∙◌, ◌≤◌, ◌<◌, ap, sym, arith, length, map}
use Rattle.toml.proofs.Views.{view-Table}
use Rattle.toml.specs.Data.{table}
use Rattle.pm_plan.specs.Plans.{own_var}
use Rattle.pm_upgrade.proofs.Listed.{classes-more, own-cut, own-end, past-rows}
use Rattle.pm_upgrade.specs.Documents.{class_members, items_of}
use Rattle.pm_upgrade.specs.Drafts.{clp_names}
use Rattle.pm_upgrade.proofs.rows.class_tables.Goals as goal

pub loop-i-preserved : goal.loop-i-preserved
loop-i-preserved c =
    let plan = c.args.plan.now in
    let all = c.as_slice-name-items.ensures in
    let lt : c.loop-i.i < length plan.classes = rw all at c.loop-i-test.true in
    let is = rw all at c.name-item.is in
    let seen = view-Table c.in_ok-class_table.field-0 ∙ ap table c.in_ok-class_table.ensures in
    rw c.in_ok-push.ensures.items
    (classes-more c.loop-i.tables.items _ plan.classes plan.layout.classes (map (own_var (clp_names plan)) plan.vars) c.loop-i.i c.name-item.result
    c.in-Some.class.now lt is (sym c.in-Some.ensures.value) c.loop-i.invariant seen)

pub returns-in_default : goal.returns-in_default
returns-in_default c =
    let plan = c.args.plan.now in
    c.loop-i.invariant
    ∙ ap (items_of class_members) (own-cut plan.classes plan.layout.classes (map (own_var (clp_names plan)) plan.vars) c.loop-i.i
    (past-rows plan.layout.classes c.loop-i.i (sym c.in_default.ensures.value)))

pub returns : goal.returns
returns c =
    let plan = c.args.plan.now in
    let past : length plan.classes ≤ c.loop-i.i = rw c.as_slice-name-items.ensures at c.loop-i-test.false in
    c.loop-i.invariant ∙ ap (items_of class_members) (own-end plan.classes plan.layout.classes (map (own_var (clp_names plan)) plan.vars) c.loop-i.i past)
