use Rattle.std.proofs.Common.{◌≡◌, ◌∙◌, sym, Result, Ok}
use Rattle.pm_base.specs.declared.program.Program.{Program}
use Rattle.pm_rules.specs.declared.fault.RuleFault.{RuleFault}
use Rattle.pm_rules.proofs.GrammarLaws.{rule_accepted}
use Rattle.pm_rules.proofs.grammar_laws.rules_are_accepted.Goals as goal

pub returns-clause-accepted : goal.returns-clause-accepted
returns-clause-accepted c t version text p which table rule = rule_accepted t version text p which table rule

same_tree : (p q : Program) → Path (Result Program RuleFault) (Ok p) (Ok q) → p ≡ q
same_tree p q e = cc

pub returns-clause-only : goal.returns-clause-only
returns-clause-only c t version text p q which table first second =
    same_tree p q (sym (rule_accepted t version text p which table first) ∙ rule_accepted t version text q which table second)
