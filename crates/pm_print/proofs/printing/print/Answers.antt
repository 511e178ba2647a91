use Rattle.std.proofs.Common.{string_bytes}
use Rattle.pm_print.proofs.PrintedLaws.{printed_back}
use Rattle.pm_print.proofs.printing.print.Goals as goal

pub returns-clause-again : goal.returns-clause-again
returns-clause-again c = λ table named fit.
    printed_back c.args.names.now c.args.program.now (string_bytes c.in_ok-text.text) c.in_ok-text.ensures.text c.in_ok-text.ensures.sized table named fit
