use Rattle.std.proofs.Common.{◌≡◌, ◌++◌, drop}
use Rattle.toml.specs.View.{items_view}
use Rattle.pm_scenario.specs.Forms.{elements, with_front}
use Rattle.pm_scenario.proofs.tables.elements.Given as goal

abbrev pub invariant-loop-index : goal.invariant-loop-index
invariant-loop-index g l = elements g.T.FromTable.form (l.prefix ++ l.key) 0 (items_view l.values) ≡ with_front l.rows (elements g.T.FromTable.form (l.prefix ++ l.key) l.index (items_view (drop l.index l.values)))
