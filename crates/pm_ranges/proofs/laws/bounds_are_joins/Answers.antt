use Rattle.pm_ranges.proofs.Grows.{bounds-are-joins}
use Rattle.pm_ranges.proofs.laws.bounds_are_joins.Goals as goal

pub returns : goal.returns
returns c = bounds-are-joins
