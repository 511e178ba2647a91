use Rattle.std.proofs.Common.{rules}
use Rattle.std.proofs.lemmas.List.Sorted.{IsPartitionPoint-from_clause}
use Rattle.pm_base.specs.Stamps.{is_below}
use Rattle.pm_ranges.specs.declared.piece.Piece.{Piece}
use Rattle.pm_ranges.proofs.Laying.{below-parted, rest-stays}
use Rattle.pm_ranges.proofs.pieces.below.Goals as goal

pub returns-clause-others : goal.returns-clause-others
returns-clause-others c =
    let l = c.args.line.now in
    let point = IsPartitionPoint-from_clause (λ (p : Piece). is_below p.until l) _ _
    c.partition_point.ensures.partitioned (below-parted c.args.pieces.now l c.requires) (λ a r q h. search rules) in
    rest-stays c.args.pieces.now l c.partition_point.result c.partition_point.ensures.bound point.0 point.1
