-- The names that a line may use, as the readers are lent them.
use Rattle.pm_base.specs.Fits.{reg_names, sense_names}
use Rattle.pm_rules.specs.Reading.{Scope}
use Rattle.pm_rules.specs.declared.expression.Lent.{Lent}

-- the names of the scenario, and of the registers and senses that were declared
abbrev pub scope_in : Lent → Scope
scope_in l = record { table = l.names.now; regs = reg_names l.regs.now; senses = sense_names l.senses.now }
