use Rattle.std.proofs.Common.{◌≡◌, ◌++◌, drop, string_bytes}
use Rattle.std.specs.List.{flat_map}
use Rattle.pm_print.specs.Printing.{scope_of, senses_sized}
use Rattle.pm_rules.specs.Spelling.{sense_said}
use Rattle.pm_print.specs.Printed.{said_text}
use Rattle.pm_print.proofs.printing.print_senses.Given as goal

abbrev pub invariant-loop-row : goal.invariant-loop-row
invariant-loop-row l = record {
  text : string_bytes l.initial.page.text ++ flat_map (said_text (scope_of l.words)) (sense_said l.words.senses.now) ≡
      string_bytes l.page.text ++
      flat_map (said_text (scope_of l.words)) (sense_said (drop l.row-index l.words.senses.now));
  sized : senses_sized l.words.senses.now ≡ senses_sized (drop l.row-index l.words.senses.now);
}
