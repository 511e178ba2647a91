use Rattle.pm_sim.proofs.Rows.{late_write_committed, late_write_legal, late_write_run_is}
use Rattle.pm_sim.proofs.worked.a_late_write.Goals as goal

pub returns : goal.returns
returns c = record { legal = late_write_legal; committed = late_write_committed; sequential = late_write_run_is }
