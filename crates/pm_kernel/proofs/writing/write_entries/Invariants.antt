use Rattle.std.proofs.Common.{◌≡◌, ◌≤◌, take}
use Rattle.std.specs.Io.KnownBytes.{Appends}
use Rattle.pm_model.specs.Traces.{trace_text}
use Rattle.pm_kernel.specs.Counts.{counted_on}
use Rattle.pm_kernel.proofs.writing.write_entries.Given as goal

abbrev pub invariant-loop-entry : goal.invariant-loop-entry
invariant-loop-entry g l = record {
  text : Appends (g.K.Sink.holds l.fn.out) (g.K.Sink.holds l.out)
      (trace_text l.plan (take l.entry-index l.entries));
  counts : l.counts ≡ counted_on l.fn.counts (take l.entry-index l.entries);
  faults : g.K.Sink.faults l.fn.out ≤ g.K.Sink.faults l.out;
  stalls : g.K.Sink.stalls l.fn.out ≤ g.K.Sink.stalls l.out;
}
