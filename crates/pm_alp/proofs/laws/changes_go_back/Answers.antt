use Rattle.pm_alp.proofs.Backs.{changes-back}
use Rattle.pm_alp.proofs.laws.changes_go_back.Goals as goal

pub returns : goal.returns
returns c = changes-back
