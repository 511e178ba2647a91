use Rattle.pm_calm.proofs.Endings.{part_legal}
use Rattle.pm_calm.proofs.laws.the_lowest_run_is_legal.Goals as goal

pub returns : goal.returns
returns c = record { legal = part_legal }
