use Rattle.pm_sim.proofs.Promised.{all-committed, end-legal}
use Rattle.pm_sim.proofs.theorem.whole.Goals as goal

pub returns : goal.returns
returns c = record { legal = end-legal; all = all-committed }
