use Rattle.std.proofs.Common.{◌≡◌, map, take}
use Rattle.toml.specs.View.{items_view}
use Rattle.pm_plan.specs.Plans.{own_var}
use Rattle.pm_upgrade.specs.Documents.{items_of, var_members}
use Rattle.pm_upgrade.specs.Drafts.{clp_names}
use Rattle.pm_upgrade.proofs.rows.var_tables.Given as goal

abbrev pub invariant-loop-row : goal.invariant-loop-row
invariant-loop-row l = items_view l.tables.items ≡ items_of var_members (map (own_var (clp_names l.plan)) (take l.row-index l.rows))
