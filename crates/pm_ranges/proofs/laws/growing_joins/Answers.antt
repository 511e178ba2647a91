use Rattle.pm_ranges.proofs.Grows.{growing-joins}
use Rattle.pm_ranges.proofs.laws.growing_joins.Goals as goal

pub returns : goal.returns
returns c = growing-joins
