use Rattle.pm_gen.proofs.Programs.{rules_read}
use Rattle.pm_gen.proofs.laws.rules_are_read.Goals as goal

pub returns : goal.returns
returns c = rules_read
