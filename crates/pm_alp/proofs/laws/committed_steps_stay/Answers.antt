use Rattle.pm_alp.proofs.Committed.{committed-stay}
use Rattle.pm_alp.proofs.laws.committed_steps_stay.Goals as goal

pub returns : goal.returns
returns c = committed-stay
