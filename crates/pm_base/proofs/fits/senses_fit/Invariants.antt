use Rattle.std.proofs.Common.{◌≡◌, ◌+◌, drop}
use Rattle.pm_base.specs.Fits.{senses_fit}
use Rattle.pm_base.proofs.fits.senses_fit.Given as goal

abbrev pub invariant-loop-row : goal.invariant-loop-row
invariant-loop-row l = record {
  before : l.before.senses ≡ l.fn.known.senses + l.row-index;
  so_far : senses_fit l.classes l.fn.known l.senses ≡ senses_fit l.classes l.before (drop l.row-index l.senses);
}
