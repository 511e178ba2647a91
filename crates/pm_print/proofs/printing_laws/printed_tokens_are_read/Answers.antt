use Rattle.pm_print.proofs.PrintingLines.{code-line_text, one_line-line_text}
use Rattle.pm_print.proofs.PrintingTokens.{lex-line_text}
use Rattle.pm_print.proofs.PrintingWorked.{worked-printed}
use Rattle.pm_print.proofs.printing_laws.printed_tokens_are_read.Goals as goal

pub returns : goal.returns
returns c =
    record { worked = worked-printed; tokens = lex-line_text; code = code-line_text; one_line = one_line-line_text }
