use Rattle.pm_rules.proofs.SpellingCounts.{change_counted, expression_counted, place_counted, sense_counted}
use Rattle.pm_rules.proofs.spelling_laws.spelled_tokens_are_counted.Goals as goal

pub returns : goal.returns
returns c = record {
  expressions = expression_counted;
  places = place_counted;
  senses = sense_counted;
  changes = change_counted;
}
