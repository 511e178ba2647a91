use Rattle.pm_print.proofs.PrintedLaws.{printed_again, printed_rule}
use Rattle.pm_print.proofs.printing_laws.printed_rules_read_back.Goals as goal

pub returns-clause-rule : goal.returns-clause-rule
returns-clause-rule c t p table named fit sized = printed_rule t p table named fit sized

pub returns-clause-again : goal.returns-clause-again
returns-clause-again c t p table named fit sized = printed_again t p table named fit sized
