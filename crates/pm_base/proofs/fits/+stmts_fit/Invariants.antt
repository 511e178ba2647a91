use Rattle.std.proofs.Common.{◌≡◌, drop}
use Rattle.pm_base.specs.Fits.{stmts_fit}
use Rattle.pm_base.proofs.fits.+stmts_fit.Given as goal

abbrev pub invariant-stmts_fit-loop-stmt : goal.invariant-stmts_fit-loop-stmt
invariant-stmts_fit-loop-stmt l = stmts_fit l.classes l.known l.stmts ≡ stmts_fit l.classes l.known (drop l.stmt-index l.stmts)
