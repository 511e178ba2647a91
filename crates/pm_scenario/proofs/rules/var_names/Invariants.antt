use Rattle.std.proofs.Common.{◌≡◌, take}
use Rattle.pm_scenario.specs.Scenarios.{var_names}
use Rattle.pm_scenario.proofs.rules.var_names.Given as goal

abbrev pub invariant-loop-class : goal.invariant-loop-class
invariant-loop-class l = l.names ≡ var_names (take l.class-index l.classes)
