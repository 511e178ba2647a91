use Rattle.pm_sim.proofs.Rows.{overtaken_cut_committed, overtaken_cut_legal, overtaken_cut_run_is}
use Rattle.pm_sim.proofs.worked.an_overtaken_cut.Goals as goal

pub returns : goal.returns
returns c = record { legal = overtaken_cut_legal; committed = overtaken_cut_committed; sequential = overtaken_cut_run_is }
