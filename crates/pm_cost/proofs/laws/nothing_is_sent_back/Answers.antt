use Rattle.pm_cost.proofs.Straightness.{all_straight}
use Rattle.pm_cost.proofs.laws.nothing_is_sent_back.Goals as goal

pub returns : goal.returns
returns c = record { straight = all_straight }
