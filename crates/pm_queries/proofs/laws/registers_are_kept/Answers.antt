use Rattle.pm_queries.proofs.Kept.{register-kept}
use Rattle.pm_queries.proofs.laws.registers_are_kept.Goals as goal

pub returns : goal.returns
returns c = register-kept
