use Rattle.std.proofs.Common.{rules}
use Rattle.std.proofs.lemmas.List.Sorted.{IsPartitionPoint-from_clause}
use Rattle.pm_periods.specs.Rows.{key_lt}
use Rattle.pm_periods.specs.declared.rows.RowKey.{RowKey}
use Rattle.pm_queries.specs.Queries.{registered_key}
use Rattle.pm_queries.proofs.Rows.{before-parted, before-point}
use Rattle.pm_queries.proofs.class_rows.before.Goals as goal

pub returns : goal.returns
returns c =
    let k : RowKey = record { stamp = c.args.stamp; num = c.args.num } in
    let point = IsPartitionPoint-from_clause (λ x. key_lt (registered_key x) k) _ _
    c.partition_point.ensures.partitioned (before-parted k c.args.rows.now c.requires) (λ a r q h. search rules) in
    before-point k c.args.rows.now c.partition_point.result c.partition_point.ensures.bound point.0 point.1
