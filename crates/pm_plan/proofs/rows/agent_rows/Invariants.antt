use Rattle.std.proofs.Common.{◌≡◌, ℕ, List, map}
use Rattle.pm_plan.specs.Directories.{KnowsNames}
use Rattle.pm_plan.specs.Plans.{agent_row}
use Rattle.pm_plan.proofs.rows.agent_rows.Given as goal

abbrev pub invariant-loop-part : goal.invariant-loop-part
invariant-loop-part l = (names : List (List ℕ)) → KnowsNames l.clps names → l.rows ≡ map (agent_row names) l.yielded
