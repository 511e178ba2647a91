use Rattle.std.proofs.Common.{◌≡◌, ◌≢◌, ◌+◌, ◌≤◌, ◌++◌, List, []}
use Rattle.std.specs.Prelude.{IfSome}
use Rattle.std.specs.Io.KnownBytes.{Appends}
use Rattle.pm_base.specs.declared.rows.Entry.{Entry}
use Rattle.pm_base.specs.declared.stamp.Line.TheVariants.{End}
use Rattle.pm_model.specs.Traces.{trace_text}
use Rattle.pm_kernel.specs.Counts.{counted_on, no_counts}
use Rattle.pm_kernel.specs.Engines.{StandsAt, world_of}
use Rattle.pm_sim.specs.Journals.{made}
use Rattle.pm_sim.specs.Worlds.{committed, least_line}
use Rattle.pm_threads.proofs.running.stages.Given as goal

abbrev pub invariant-loop-left : goal.invariant-loop-left
invariant-loop-left g l = record {
  stands : StandsAt l.plan l.settings l.crew;
  left : l.left + made l.crew.journal ≡ l.settings.budget;
  begun : IfSome l.settings.window (λ _. l.crew.journal ≢ []);
  over : least_line (world_of l.crew) ≡ End → l.crew.journal ≢ [];
  entries : (es : List Entry) × (committed l.plan l.crew.journal ≡ committed l.plan l.fn.crew.journal ++ es)
      × Appends (g.K.Sink.holds l.fn.out) (g.K.Sink.holds l.out) (trace_text l.plan es);
  counts : l.counts ≡ counted_on no_counts (committed l.plan l.crew.journal);
  faults : g.K.Sink.faults l.fn.out ≤ g.K.Sink.faults l.out;
  stalls : g.K.Sink.stalls l.fn.out ≤ g.K.Sink.stalls l.out;
}

abbrev pub decreases-loop-left : goal.decreases-loop-left
decreases-loop-left g l = l.left
