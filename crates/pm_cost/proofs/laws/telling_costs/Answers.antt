use Rattle.pm_cost.proofs.GrowCosts.{all_telling}
use Rattle.pm_cost.proofs.laws.telling_costs.Goals as goal

pub returns : goal.returns
returns c = record { told = all_telling }
