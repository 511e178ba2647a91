use Rattle.pm_rules.proofs.FaultLaws.{first_refused, refused_first}
use Rattle.pm_rules.proofs.grammar_laws.refusals_are_first_faults.Goals as goal

pub returns-clause-first : goal.returns-clause-first
returns-clause-first c = refused_first

pub returns-clause-refused : goal.returns-clause-refused
returns-clause-refused c = first_refused
