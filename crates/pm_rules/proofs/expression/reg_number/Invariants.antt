use Rattle.std.proofs.Common.{◌≡◌, drop}
use Rattle.pm_base.specs.Fits.{reg_names}
use Rattle.pm_rules.specs.Reading.{number_of, number_from}
use Rattle.pm_rules.proofs.expression.reg_number.Given as goal

abbrev pub invariant-loop-i : goal.invariant-loop-i
invariant-loop-i l = number_of (reg_names l.regs) l.word ≡ number_from l.word l.i (reg_names (drop l.i l.regs))
