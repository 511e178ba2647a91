use Rattle.pm_alp.proofs.Committed.{first-order, order-stays}
use Rattle.pm_alp.proofs.laws.moments_stay_in_order.Goals as goal

pub returns-clause-first : goal.returns-clause-first
returns-clause-first c = first-order

pub returns-clause-stays : goal.returns-clause-stays
returns-clause-stays c = order-stays
