use Rattle.pm_cost.proofs.Falling.{all_deliveries}
use Rattle.pm_cost.proofs.laws.a_delivery_costs_one.Goals as goal

pub returns : goal.returns
returns c = record { falls = all_deliveries }
