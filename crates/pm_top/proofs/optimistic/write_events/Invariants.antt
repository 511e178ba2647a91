use Rattle.std.proofs.Common.{◌≤◌, take}
use Rattle.std.specs.Io.KnownBytes.{Appends}
use Rattle.pm_history.specs.Journals.{journal_text}
use Rattle.pm_top.proofs.optimistic.write_events.Given as goal

abbrev pub invariant-loop-event : goal.invariant-loop-event
invariant-loop-event g l = record {
  text : Appends (g.K.Sink.holds l.fn.out) (g.K.Sink.holds l.out) (journal_text (take l.event-index l.events));
  faults : g.K.Sink.faults l.fn.out ≤ g.K.Sink.faults l.out;
  stalls : g.K.Sink.stalls l.fn.out ≤ g.K.Sink.stalls l.out;
}
