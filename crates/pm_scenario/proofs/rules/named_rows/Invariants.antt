use Rattle.std.proofs.Common.{◌≡◌, take, length}
use Rattle.pm_plan.specs.Plans.{all_vars}
use Rattle.pm_scenario.specs.Scenarios.{named_rows}
use Rattle.pm_scenario.proofs.rules.named_rows.Given as goal

abbrev pub invariant-loop-class : goal.invariant-loop-class
invariant-loop-class l = record {
  rows : l.rows ≡ named_rows 0 (take l.class-index l.classes);
  first : l.first ≡ length (all_vars (take l.class-index l.classes));
}
