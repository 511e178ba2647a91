use Rattle.std.proofs.Common.{◌≡◌, take, length}
use Rattle.pm_plan.specs.Plans.{all_vars}
use Rattle.pm_plan.proofs.check.count_vars.Given as goal

abbrev pub invariant-loop-class : goal.invariant-loop-class
invariant-loop-class l = l.count ≡ length (all_vars (take l.class-index l.classes))
