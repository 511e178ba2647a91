use Rattle.std.proofs.Common.{rules, arith}
use Rattle.std.proofs.lemmas.List.Sorted.{IsPartitionPoint-from_clause}
use Rattle.pm_periods.specs.Laid.{withdrawal_key}
use Rattle.pm_periods.specs.Rows.{key_lt}
use Rattle.pm_periods.proofs.Searches.{key-place, rows-parted}
use Rattle.pm_periods.proofs.record.cut_place.Goals as goal

pub returns : goal.returns
returns c =
    let ws = c.args.withdrawals.now in
    let k = c.args.key in
    let point = IsPartitionPoint-from_clause (λ w. key_lt
    (withdrawal_key w) k) ws c.partition_point.result c.partition_point.ensures.partitioned
    (rows-parted withdrawal_key k ws c.requires.order) (λ a r q f. search rules) in
    key-place withdrawal_key k ws c.partition_point.result c.requires.order c.requires.there
    c.partition_point.ensures.bound
    (λ j d lt. point.0 j d (omega arith) lt) (λ j d le lt. point.1 j d le lt)
