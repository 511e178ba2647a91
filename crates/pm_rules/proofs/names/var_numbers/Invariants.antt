use Rattle.std.proofs.Common.{take}
use Rattle.pm_rules.specs.Directories.{Knows}
use Rattle.pm_rules.proofs.names.var_numbers.Given as goal

abbrev pub invariant-loop-i : goal.invariant-loop-i
invariant-loop-i l = Knows l.numbers (take l.i l.vars)
