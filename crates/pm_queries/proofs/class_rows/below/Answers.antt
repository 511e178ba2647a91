use Rattle.std.proofs.Common.{rules}
use Rattle.std.proofs.lemmas.List.Sorted.{IsPartitionPoint-from_clause}
use Rattle.pm_base.specs.Stamps.{is_below}
use Rattle.pm_queries.specs.declared.registered.Registered.{Registered}
use Rattle.pm_queries.proofs.Rows.{below-first, below-others, below-parted}
use Rattle.pm_queries.proofs.class_rows.below.Goals as goal

pub returns-clause-first : goal.returns-clause-first
returns-clause-first c =
    let l = c.args.line.now in
    let point = IsPartitionPoint-from_clause (λ (x : Registered). is_below x.stamp l) _ _
    c.partition_point.ensures.partitioned (below-parted l c.args.rows.now c.requires) (λ a r q h. search rules) in
    below-first l c.args.rows.now c.partition_point.result c.partition_point.ensures.bound point.0 point.1

pub returns-clause-others : goal.returns-clause-others
returns-clause-others c =
    let l = c.args.line.now in
    let point = IsPartitionPoint-from_clause (λ (x : Registered). is_below x.stamp l) _ _
    c.partition_point.ensures.partitioned (below-parted l c.args.rows.now c.requires) (λ a r q h. search rules) in
    below-others l c.args.rows.now c.partition_point.result c.partition_point.ensures.bound point.0 point.1
