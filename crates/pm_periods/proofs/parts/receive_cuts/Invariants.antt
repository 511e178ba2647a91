use Rattle.std.proofs.Common.{◌≡◌, [], drop}
use Rattle.pm_periods.specs.Received.{cuts_received}
use Rattle.pm_periods.specs.Records.{with_parts}
use Rattle.pm_periods.proofs.parts.receive_cuts.Given as goal

abbrev pub invariant-loop-cut : goal.invariant-loop-cut
invariant-loop-cut l = record {
  reads : l.made.parts.reads ≡ [];
  so_far : with_parts l.fn.made (cuts_received l.cuts l.fn.made.parts) ≡ with_parts l.made (cuts_received (drop l.cut-index l.cuts) l.made.parts);
}
