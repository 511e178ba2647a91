use Rattle.std.proofs.Common.{rules, not}
use Rattle.std.proofs.lemmas.List.Sorted.{IsPartitionPoint-from_clause}
use Rattle.pm_periods.specs.Rows.{key_lt}
use Rattle.pm_queries.specs.Queries.{registered_key}
use Rattle.pm_queries.proofs.Rows.{up_to-parted, up_to-point}
use Rattle.pm_queries.proofs.class_rows.up_to.Goals as goal

pub returns-clause-value : goal.returns-clause-value
returns-clause-value c =
    let k = registered_key c.args.row.now in
    let point = IsPartitionPoint-from_clause (λ x. not (key_lt k (registered_key x))) _
    _ c.partition_point.ensures.partitioned (up_to-parted k c.args.rows.now c.requires) (λ a r q h. search rules) in
    up_to-point k c.args.rows.now c.partition_point.result c.partition_point.ensures.bound point.0 point.1
