use Rattle.std.proofs.Common.{◌≡◌, drop}
use Rattle.pm_base.specs.Fits.{names_fit, sense_names}
use Rattle.pm_base.proofs.fits.sense_names_fit.Given as goal

abbrev pub invariant-loop-k : goal.invariant-loop-k
invariant-loop-k l = names_fit (sense_names l.senses) ≡ names_fit (sense_names (drop l.k l.senses))
