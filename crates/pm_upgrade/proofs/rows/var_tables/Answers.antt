use Rattle.std.proofs.Common.{◌∙◌, ap, arith}
use Rattle.toml.proofs.Views.{view-Table}
use Rattle.toml.specs.Data.{table}
use Rattle.pm_plan.specs.Plans.{own_var}
use Rattle.pm_upgrade.proofs.Listed.{items-more}
use Rattle.pm_upgrade.specs.Documents.{var_members}
use Rattle.pm_upgrade.specs.Drafts.{clp_names}
use Rattle.pm_upgrade.proofs.rows.var_tables.Goals as goal

pub loop-row-preserved : goal.loop-row-preserved
loop-row-preserved c =
    let seen = view-Table c.in_ok-var_table.field-0 ∙ ap table c.in_ok-var_table.ensures in
    rw c.in_ok-push.ensures.items (items-more var_members (own_var (clp_names c.args.plan.now)) c.loop-row.tables.items _ c.args.rows.now c.loop-row.row-index c.row-item.result (omega arith) c.row-item.is c.loop-row.invariant seen)
