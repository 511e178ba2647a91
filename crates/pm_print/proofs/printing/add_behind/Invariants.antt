use Rattle.std.proofs.Common.{◌≡◌, ◌++◌, drop, string_bytes}
use Rattle.pm_print.specs.Printing.{piece_tok, pieces}
use Rattle.pm_print.specs.Printed.{text_behind}
use Rattle.pm_print.proofs.printing.add_behind.Given as goal

abbrev pub invariant-loop-piece : goal.invariant-loop-piece
invariant-loop-piece l =
    string_bytes l.initial.out ++ text_behind (piece_tok l.first) (pieces l.rest) ≡
    string_bytes l.out ++ text_behind (piece_tok l.before) (pieces (drop l.piece-index l.rest))
