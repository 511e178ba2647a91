use Rattle.std.proofs.Common.{◌≡◌, not, true, false, get_or, rules, arith}
use Rattle.std.proofs.lemmas.List.Sorted.{IsPartitionPoint-from_clause}
use Rattle.pm_base.specs.Stamps.{stamp_lt}
use Rattle.pm_base.specs.declared.rows.ReadRow.{ReadRow}
use Rattle.pm_periods.proofs.Laid.{not_false, not_true, reads_parted, rows_drop, rows_take}
use Rattle.pm_periods.proofs.record.reads_up_to.Goals as goal

pub returns-clause-before : goal.returns-clause-before
returns-clause-before c =
    let qs = c.args.reads.now in
    let at = c.partition_point.result in
    let point = IsPartitionPoint-from_clause (λ (q : ReadRow). not (stamp_lt c.args.stamp q.stamp)) qs at c.partition_point.ensures.partitioned
    (reads_parted c.args.stamp qs c.requires) (λ a r q f. search rules) in
    rows_take (λ (q : ReadRow). stamp_lt c.args.stamp q.stamp ≡ false) qs at (λ k d lt. not_true (stamp_lt c.args.stamp (get_or qs k d).stamp) (point.0 k d (omega arith) lt))

pub returns-clause-after : goal.returns-clause-after
returns-clause-after c =
    let qs = c.args.reads.now in
    let at = c.partition_point.result in
    let point = IsPartitionPoint-from_clause (λ (q : ReadRow). not (stamp_lt c.args.stamp q.stamp)) qs at c.partition_point.ensures.partitioned
    (reads_parted c.args.stamp qs c.requires) (λ a r q f. search rules) in
    rows_drop (λ (q : ReadRow). stamp_lt c.args.stamp q.stamp ≡ true) qs at (λ k d le lt. not_false (stamp_lt c.args.stamp (get_or qs k d).stamp) (point.1 k d le lt))
