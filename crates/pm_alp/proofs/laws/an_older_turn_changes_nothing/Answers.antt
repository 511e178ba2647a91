use Rattle.pm_alp.proofs.AgentLaws.{give-older}
use Rattle.pm_alp.proofs.laws.an_older_turn_changes_nothing.Goals as goal

pub returns : goal.returns
returns c = give-older
