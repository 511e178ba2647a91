use Rattle.pm_sim.proofs.Rows.{moving_query_committed, moving_query_legal, moving_query_run_is}
use Rattle.pm_sim.proofs.worked.a_moving_query.Goals as goal

pub returns : goal.returns
returns c = record { legal = moving_query_legal; committed = moving_query_committed; sequential = moving_query_run_is }
