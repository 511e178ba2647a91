use Rattle.std.proofs.Common.{◌∙◌, ◌<◌, ap, length}
use Rattle.toml.proofs.Views.{view-Table}
use Rattle.toml.specs.Data.{table}
use Rattle.pm_plan.specs.Plans.{own_clp}
use Rattle.pm_upgrade.proofs.Listed.{items-more}
use Rattle.pm_upgrade.specs.Documents.{clp_members}
use Rattle.pm_upgrade.specs.Drafts.{clp_names}
use Rattle.pm_upgrade.proofs.rows.clp_tables.Goals as goal

pub loop-row-preserved : goal.loop-row-preserved
loop-row-preserved c =
    let all = c.as_slice-row-items.ensures in
    let lt : c.loop-row.row-index < length c.args.plan.now.clps = rw all at c.loop-row-test.true in
    let is = rw all at c.row-item.is in
    let seen = view-Table c.in_ok-clp_table.field-0 ∙ ap table c.in_ok-clp_table.ensures in
    rw c.in_ok-push.ensures.items (items-more clp_members (own_clp (clp_names c.args.plan.now)) c.loop-row.tables.items _ c.args.plan.now.clps c.loop-row.row-index c.row-item.result lt is c.loop-row.invariant seen)
