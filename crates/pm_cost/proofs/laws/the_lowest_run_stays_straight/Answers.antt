use Rattle.pm_cost.proofs.Onward.{lowest_straight}
use Rattle.pm_cost.proofs.laws.the_lowest_run_stays_straight.Goals as goal

pub returns : goal.returns
returns c = record { straight = lowest_straight }
