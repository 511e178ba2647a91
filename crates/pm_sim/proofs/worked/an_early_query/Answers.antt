use Rattle.pm_sim.proofs.Rows.{early_query_committed, early_query_legal, early_query_run_is}
use Rattle.pm_sim.proofs.worked.an_early_query.Goals as goal

pub returns : goal.returns
returns c = record { legal = early_query_legal; committed = early_query_committed; sequential = early_query_run_is }
