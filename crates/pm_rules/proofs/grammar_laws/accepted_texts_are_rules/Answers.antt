use Rattle.pm_rules.proofs.GrammarLaws.{accepted_rule}
use Rattle.pm_rules.proofs.grammar_laws.accepted_texts_are_rules.Goals as goal

pub returns-clause-rule : goal.returns-clause-rule
returns-clause-rule c t version text p count is = accepted_rule t version text p count is

pub returns-clause-fits : goal.returns-clause-fits
returns-clause-fits c t version text p count is = (accepted_rule t version text p count is).fits
