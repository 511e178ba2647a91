use Rattle.std.proofs.Common.{◌≡◌, drop}
use Rattle.pm_base.specs.Fits.{has_name, reg_names}
use Rattle.pm_rules.proofs.draft.is_reg.Given as goal

abbrev pub invariant-loop-row : goal.invariant-loop-row
invariant-loop-row l = has_name l.name (reg_names l.regs) ≡ has_name l.name (reg_names (drop l.row-index l.regs))
