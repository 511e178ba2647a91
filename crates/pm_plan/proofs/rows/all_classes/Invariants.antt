use Rattle.std.proofs.Common.{◌≡◌, ℕ, List, map, length}
use Rattle.pm_plan.specs.Directories.{KnowsNames}
use Rattle.pm_plan.specs.Plans.{HavePairs, var_row, class_rows, all_vars}
use Rattle.pm_plan.proofs.rows.all_classes.Given as goal

abbrev pub invariant-loop-class : goal.invariant-loop-class
invariant-loop-class l = record {
  rows : l.all.rows ≡ class_rows 0 l.yielded;
  names : l.all.names ≡ map (λ c. c.name) l.yielded;
  vars : (names : List (List ℕ)) → KnowsNames l.clps names → l.all.vars ≡ map (var_row names) (all_vars l.yielded);
  count : length l.all.vars ≡ length (all_vars l.yielded);
  pairs : HavePairs l.all.vars;
}
