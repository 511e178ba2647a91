use Rattle.std.proofs.Common.{rules}
use Rattle.pm_base.specs.Stamps.{stamp_lt}
use Rattle.std.proofs.lemmas.List.Sorted.{IsPartitionPoint-from_clause}
use Rattle.pm_ranges.proofs.Laying.{rising-parted, point-before}
use Rattle.pm_ranges.proofs.pieces.before.Goals as goal

pub returns-clause-value : goal.returns-clause-value
returns-clause-value c =
    let point = IsPartitionPoint-from_clause (λ p. stamp_lt p.until c.args.s) _ _ c.partition_point.ensures.partitioned (rising-parted c.args.pieces.now c.args.s c.requires) (λ a r q k. search rules) in
    point-before c.args.pieces.now c.args.s c.partition_point.result c.partition_point.ensures.bound point.0 point.1
