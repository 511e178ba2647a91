use Rattle.std.proofs.Common.{◌≡◌, ◌+◌, length}
use Rattle.pm_plan.specs.Plans.{all_vars}
use Rattle.pm_plan.proofs.tests.classes.Given as goal

abbrev pub invariant-loop-name : goal.invariant-loop-name
invariant-loop-name l = length (all_vars l.parts) + l.left ≡ 10000
