use Rattle.pm_ranges.proofs.Grows.{covering-is-told}
use Rattle.pm_ranges.proofs.laws.covering_is_told.Goals as goal

pub returns : goal.returns
returns c = covering-is-told
