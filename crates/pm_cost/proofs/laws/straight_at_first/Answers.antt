use Rattle.pm_cost.proofs.Starts.{straight_starts}
use Rattle.pm_cost.proofs.laws.straight_at_first.Goals as goal

pub returns : goal.returns
returns c = record { starts = straight_starts }
