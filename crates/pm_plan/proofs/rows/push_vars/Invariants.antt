use Rattle.std.proofs.Common.{◌≡◌, ◌++◌, ◌+◌, ℕ, List, map, length}
use Rattle.pm_plan.specs.Directories.{KnowsNames}
use Rattle.pm_plan.specs.Plans.{HavePairs, var_row}
use Rattle.pm_plan.proofs.rows.push_vars.Given as goal

abbrev pub invariant-loop-part : goal.invariant-loop-part
invariant-loop-part l = record {
  rows : (names : List (List ℕ)) → KnowsNames l.clps names → l.rows ≡ l.fn.rows ++ map (var_row names) l.yielded;
  count : length l.rows ≡ length l.fn.rows + length l.yielded;
  pairs : HavePairs l.fn.rows → HavePairs l.rows;
}
