use Rattle.std.proofs.Common.{map, take}
use Rattle.pm_rules.specs.Directories.{Knows}
use Rattle.pm_rules.proofs.names.class_numbers.Given as goal

abbrev pub invariant-loop-i : goal.invariant-loop-i
invariant-loop-i l = Knows l.numbers (map (λ c. c.0) (take l.i l.classes))
