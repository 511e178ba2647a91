use Rattle.pm_rules.proofs.LinesWereSpelled.{line_spelled}
use Rattle.pm_rules.proofs.WasSpelled.{expression_spelled, place_spelled}
use Rattle.pm_rules.proofs.spelling_laws.read_was_spelled.Goals as goal

pub returns : goal.returns
returns c = record { expressions = expression_spelled; places = place_spelled; lines = line_spelled }
