use Rattle.std.proofs.Common.{◌≡◌, drop}
use Rattle.pm_step.specs.Expressions.{place_in_class}
use Rattle.pm_step.proofs.expressions.place_in_class.Given as goal

abbrev pub invariant-loop-c : goal.invariant-loop-c
invariant-loop-c l = place_in_class l.classes l.var ≡ place_in_class (drop l.c-index l.classes) l.var
