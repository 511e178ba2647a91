use Rattle.std.proofs.Common.{◌≡◌, ◌++◌, drop, string_bytes}
use Rattle.std.specs.List.{flat_map}
use Rattle.pm_print.specs.Printing.{scope_of, regs_sized}
use Rattle.pm_rules.specs.Spelling.{reg_said}
use Rattle.pm_print.specs.Printed.{said_text}
use Rattle.pm_print.proofs.printing.print_regs.Given as goal

abbrev pub invariant-loop-row : goal.invariant-loop-row
invariant-loop-row l = record {
  text : string_bytes l.initial.page.text ++ flat_map (said_text (scope_of l.words)) (reg_said l.words.regs.now) ≡
      string_bytes l.page.text ++
      flat_map (said_text (scope_of l.words)) (reg_said (drop l.row-index l.words.regs.now));
  sized : regs_sized l.words.regs.now ≡ regs_sized (drop l.row-index l.words.regs.now);
}
