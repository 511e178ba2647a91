use Rattle.pm_routes.proofs.Rooms.{counts-one}
use Rattle.pm_routes.proofs.laws.counts_one.Goals as goal

pub returns : goal.returns
returns c = counts-one
