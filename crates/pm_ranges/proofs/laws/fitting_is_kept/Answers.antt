use Rattle.pm_ranges.proofs.Grows.{fitting-is-kept}
use Rattle.pm_ranges.proofs.laws.fitting_is_kept.Goals as goal

pub returns : goal.returns
returns c = fitting-is-kept
