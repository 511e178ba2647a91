use Rattle.pm_rules.proofs.ScopeLaws.{expression_kept, said_kept}
use Rattle.pm_rules.proofs.spelling_laws.spelled_in_a_larger_scope.Goals as goal

pub returns : goal.returns
returns c = record { expressions = expression_kept; lines = said_kept }
