use Rattle.std.proofs.Common.{◌≡◌, ◌++◌, drop}
use Rattle.pm_base.specs.Fits.{names_fit, reg_names, sense_names}
use Rattle.pm_base.proofs.fits.names_fit.Given as goal

abbrev pub invariant-loop-k : goal.invariant-loop-k
invariant-loop-k l =
    names_fit (reg_names l.regs ++ sense_names l.senses) ≡ names_fit (reg_names (drop l.k l.regs) ++ sense_names l.senses)
