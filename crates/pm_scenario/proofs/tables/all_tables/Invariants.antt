use Rattle.std.proofs.Common.{◌≡◌, ◌++◌, drop}
use Rattle.toml.specs.View.{items_view}
use Rattle.pm_scenario.specs.Forms.{all_tables}
use Rattle.pm_scenario.proofs.tables.all_tables.Given as goal

abbrev pub invariant-loop-index : goal.invariant-loop-index
invariant-loop-index l = all_tables (l.prefix ++ l.key) 0 (items_view l.values) ≡ all_tables (l.prefix ++ l.key) l.index (items_view (drop l.index l.values))
