use Rattle.pm_sim.proofs.Rows.{adders_committed, adders_legal, adders_run_is}
use Rattle.pm_sim.proofs.worked.writes_that_add.Goals as goal

pub returns : goal.returns
returns c = record { legal = adders_legal; committed = adders_committed; sequential = adders_run_is }
