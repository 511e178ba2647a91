use Rattle.std.proofs.Common.{◌≡◌, true, List}
use Rattle.pm_plan.specs.Plans.{rules_fit}
use Rattle.pm_plan.specs.declared.parts.ClassPart.{ClassPart}
use Rattle.pm_plan.proofs.tests.agents.Given as goal

abbrev pub invariant-loop-name : goal.invariant-loop-name
invariant-loop-name l = (classes : List ClassPart) → rules_fit classes l.parts ≡ true
