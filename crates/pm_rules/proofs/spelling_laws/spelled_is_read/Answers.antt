use Rattle.pm_rules.proofs.LinesReadAgain.{line_read}
use Rattle.pm_rules.proofs.ReadAgain.{expression_read, place_read}
use Rattle.pm_rules.proofs.spelling_laws.spelled_is_read.Goals as goal

pub returns : goal.returns
returns c = record { expressions = expression_read; places = place_read; lines = line_read }
