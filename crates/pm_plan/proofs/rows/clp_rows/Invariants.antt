use Rattle.std.proofs.Common.{◌≡◌, ℕ, List, map}
use Rattle.pm_plan.specs.Directories.{KnowsNames}
use Rattle.pm_plan.specs.Plans.{clp_row}
use Rattle.pm_plan.proofs.rows.clp_rows.Given as goal

abbrev pub invariant-loop-part : goal.invariant-loop-part
invariant-loop-part l = (names : List (List ℕ)) → KnowsNames l.clps names → l.rows ≡ map (clp_row names) l.yielded
