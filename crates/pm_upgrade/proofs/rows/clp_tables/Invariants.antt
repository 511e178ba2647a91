use Rattle.std.proofs.Common.{◌≡◌, map, take}
use Rattle.toml.specs.View.{items_view}
use Rattle.pm_plan.specs.Plans.{own_clp}
use Rattle.pm_upgrade.specs.Documents.{items_of, clp_members}
use Rattle.pm_upgrade.specs.Drafts.{clp_names}
use Rattle.pm_upgrade.proofs.rows.clp_tables.Given as goal

abbrev pub invariant-loop-row : goal.invariant-loop-row
invariant-loop-row l = items_view l.tables.items ≡ items_of clp_members (map (own_clp (clp_names l.plan)) (take l.row-index l.plan.clps))
