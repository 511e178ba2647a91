use Rattle.pm_cost.proofs.Standing.{few_unread}
use Rattle.pm_cost.proofs.laws.unread_records_are_few.Goals as goal

pub returns : goal.returns
returns c = record { few = few_unread }
