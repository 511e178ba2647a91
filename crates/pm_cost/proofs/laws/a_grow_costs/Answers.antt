use Rattle.pm_cost.proofs.GrowCosts.{all_growing}
use Rattle.pm_cost.proofs.laws.a_grow_costs.Goals as goal

pub returns : goal.returns
returns c = record { grown = all_growing }
