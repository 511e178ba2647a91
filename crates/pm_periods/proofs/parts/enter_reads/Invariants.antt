use Rattle.std.proofs.Common.{◌≡◌, false, drop}
use Rattle.std.specs.List.{AllByRecursion}
use Rattle.pm_base.specs.declared.rows.ReadRow.{ReadRow}
use Rattle.pm_periods.specs.Received.{reads_entered}
use Rattle.pm_periods.specs.Records.{with_parts}
use Rattle.pm_periods.specs.Rows.{AreDistinct, has_num, read_key}
use Rattle.pm_periods.proofs.parts.enter_reads.Given as goal

abbrev pub invariant-loop-q : goal.invariant-loop-q
invariant-loop-q l = record {
  new : AllByRecursion (λ (q : ReadRow). has_num read_key q.num l.made.parts.reads ≡ false) (drop l.q-index l.reads);
  once : AreDistinct read_key (drop l.q-index l.reads);
  so_far : with_parts l.fn.made (reads_entered l.reads l.fn.made.parts) ≡ with_parts l.made (reads_entered (drop l.q-index l.reads) l.made.parts);
}
