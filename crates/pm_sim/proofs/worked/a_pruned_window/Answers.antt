use Rattle.pm_sim.proofs.Rows.{pruned_window_committed, pruned_window_legal, pruned_window_run_is}
use Rattle.pm_sim.proofs.worked.a_pruned_window.Goals as goal

pub returns : goal.returns
returns c = record { legal = pruned_window_legal; committed = pruned_window_committed; sequential = pruned_window_run_is }
