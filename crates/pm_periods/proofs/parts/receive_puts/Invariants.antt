use Rattle.std.proofs.Common.{◌≡◌, [], drop}
use Rattle.pm_periods.specs.Received.{puts_received}
use Rattle.pm_periods.specs.Records.{with_parts}
use Rattle.pm_periods.proofs.parts.receive_puts.Given as goal

abbrev pub invariant-loop-row : goal.invariant-loop-row
invariant-loop-row l = record {
  reads : l.made.parts.reads ≡ [];
  so_far : with_parts l.fn.made (puts_received l.puts l.fn.made.parts) ≡ with_parts l.made (puts_received (drop l.row-index l.puts) l.made.parts);
}
