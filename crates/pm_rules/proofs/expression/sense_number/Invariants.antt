use Rattle.std.proofs.Common.{◌≡◌, drop}
use Rattle.pm_base.specs.Fits.{sense_names}
use Rattle.pm_rules.specs.Reading.{number_of, number_from}
use Rattle.pm_rules.proofs.expression.sense_number.Given as goal

abbrev pub invariant-loop-i : goal.invariant-loop-i
invariant-loop-i l = number_of (sense_names l.senses) l.word ≡ number_from l.word l.i (sense_names (drop l.i l.senses))
