use Rattle.pm_print.proofs.PrintingRows.{lines-written, rows-printed}
use Rattle.pm_print.proofs.PrintingBodies.{program-written}
use Rattle.pm_print.proofs.printing_laws.printed_lines_are_read.Goals as goal

pub returns : goal.returns
returns c = record { written = program-written; lines = lines-written; rows = rows-printed }
