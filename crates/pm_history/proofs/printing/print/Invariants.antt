use Rattle.std.proofs.Common.{◌≡◌, take}
use Rattle.std.specs.List.{AllByRecursion}
use Rattle.pm_history.specs.Journals.{IsWritable, journal_text}
use Rattle.pm_history.proofs.printing.print.Given as goal

abbrev pub invariant-loop-event : goal.invariant-loop-event
invariant-loop-event l = record {
  text : l.out.items ≡ journal_text (take l.event-index l.event-items);
  numbers : AllByRecursion IsWritable (take l.event-index l.event-items);
}
