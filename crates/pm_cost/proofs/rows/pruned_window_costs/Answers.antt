use Rattle.pm_cost.proofs.Worked.{pruned_window_sum}
use Rattle.pm_cost.proofs.rows.pruned_window_costs.Goals as goal

pub returns : goal.returns
returns c = record { sum = pruned_window_sum }
