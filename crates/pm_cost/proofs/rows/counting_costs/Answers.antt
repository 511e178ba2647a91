use Rattle.pm_cost.proofs.Worked.{counting_sum}
use Rattle.pm_cost.proofs.rows.counting_costs.Goals as goal

pub returns : goal.returns
returns c = record { sum = counting_sum }
