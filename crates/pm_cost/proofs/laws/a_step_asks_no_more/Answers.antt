use Rattle.pm_cost.proofs.Credits.{asks_no_more}
use Rattle.pm_cost.proofs.laws.a_step_asks_no_more.Goals as goal

pub returns : goal.returns
returns c = record { asked = asks_no_more }
