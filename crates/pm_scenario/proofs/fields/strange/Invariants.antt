use Rattle.std.proofs.Common.{◌≡◌, map, option_map}
use Rattle.toml.specs.View.{table_view, members_view}
use Rattle.pm_scenario.specs.Forms.{strange, least_of}
use Rattle.pm_scenario.proofs.fields.strange.Given as goal

abbrev pub invariant-loop-key : goal.invariant-loop-key
invariant-loop-key l = record {
  can : (goal.iterator-loop-key).can_next l.key-iterator;
  finite : (goal.iterator-loop-key).is_finite l.key-iterator;
  same : strange (map (λ s. s.now) l.keys) (table_view l.table) ≡ least_of (map (λ s. s.now) l.keys) (option_map (λ s. s.now) l.least) (members_view l.key-iterator);
}
