use Rattle.std.proofs.Common.{◌≤◌, take}
use Rattle.std.specs.Io.KnownBytes.{Appends}
use Rattle.pm_top.specs.Refusals.{shown}
use Rattle.pm_top.proofs.refusals.say_key.Given as goal

abbrev pub invariant-loop-b : goal.invariant-loop-b
invariant-loop-b g l = record {
  so_far : Appends (g.E.Sink.holds l.fn.err) (g.E.Sink.holds l.err) (shown (take l.b-index l.key));
  faults : g.E.Sink.faults l.fn.err ≤ g.E.Sink.faults l.err;
  stalls : g.E.Sink.stalls l.fn.err ≤ g.E.Sink.stalls l.err;
}
