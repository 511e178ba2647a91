use Rattle.std.proofs.Common.{◌≡◌, ◌++◌, drop, string_bytes}
use Rattle.std.specs.List.{flat_map}
use Rattle.pm_print.specs.Printing.{scope_of, stmts_sized}
use Rattle.pm_rules.specs.Spelling.{says_all}
use Rattle.pm_print.specs.Printed.{said_text}
use Rattle.pm_print.proofs.printing.+print_stmts.Given as goal

abbrev pub invariant-print_stmts-loop-stmt : goal.invariant-print_stmts-loop-stmt
invariant-print_stmts-loop-stmt l = record {
  text : string_bytes l.initial.page.text ++ flat_map (said_text (scope_of l.words)) (says_all l.stmts) ≡
      string_bytes l.page.text ++ flat_map (said_text (scope_of l.words)) (says_all (drop l.stmt-index l.stmts));
  sized : stmts_sized l.stmts ≡ stmts_sized (drop l.stmt-index l.stmts);
}
