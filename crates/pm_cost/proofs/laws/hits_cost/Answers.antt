use Rattle.pm_cost.proofs.Hits.{all_hits}
use Rattle.pm_cost.proofs.laws.hits_cost.Goals as goal

pub returns : goal.returns
returns c = record { hits = all_hits }
