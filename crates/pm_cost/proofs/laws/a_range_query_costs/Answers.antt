use Rattle.pm_cost.proofs.QueryRuns.{query_costs}
use Rattle.pm_cost.proofs.laws.a_range_query_costs.Goals as goal

pub returns : goal.returns
returns c = record { costs = query_costs }
