use Rattle.pm_cost.proofs.Acting.{agents_straight}
use Rattle.pm_cost.proofs.laws.agents_stay_straight.Goals as goal

pub returns : goal.returns
returns c = record { straight = agents_straight }
