use Rattle.pm_sim.proofs.Rows.{withdrawn_write_committed, withdrawn_write_legal, withdrawn_write_run_is}
use Rattle.pm_sim.proofs.worked.a_withdrawn_write.Goals as goal

pub returns : goal.returns
returns c = record { legal = withdrawn_write_legal; committed = withdrawn_write_committed; sequential = withdrawn_write_run_is }
