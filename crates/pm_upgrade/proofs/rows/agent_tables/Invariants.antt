use Rattle.std.proofs.Common.{◌≡◌, map, take}
use Rattle.std.specs.List.{AllByRecursion}
use Rattle.toml.specs.View.{items_view}
use Rattle.pm_plan.specs.Plans.{own_agent}
use Rattle.pm_upgrade.specs.Documents.{agent_members, items_of}
use Rattle.pm_upgrade.specs.Drafts.{clp_names, with_text}
use Rattle.pm_upgrade.specs.Rows.{IsReadBack}
use Rattle.pm_upgrade.proofs.rows.agent_tables.Given as goal

abbrev pub invariant-loop-row : goal.invariant-loop-row
invariant-loop-row l = record {
  tables : items_view l.tables.items
      ≡ items_of agent_members (map (λ a. with_text l.names (own_agent (clp_names l.plan) a)) (take l.row-index l.plan.agents));
  read : AllByRecursion (IsReadBack l.names) (take l.row-index l.plan.agents);
}
