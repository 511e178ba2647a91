use Rattle.pm_resume.proofs.RowLaws.{stuck}
use Rattle.pm_resume.proofs.rows.a_retired_agent_is_stuck.Goals as goal

pub returns : goal.returns
returns c = stuck
