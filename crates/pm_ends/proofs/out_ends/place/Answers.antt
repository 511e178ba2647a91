use Rattle.std.proofs.Common.{rules}
use Rattle.std.specs.Prelude.{nat_lt}
use Rattle.std.proofs.lemmas.List.Sorted.{IsPartitionPoint-from_clause}
use Rattle.pm_ends.proofs.Held.{place_is, tos_parted}
use Rattle.pm_ends.proofs.out_ends.place.Goals as goal

pub returns : goal.returns
returns c =
    let t = c.args.to in
    let xs = c.args.ends.now in
    let point = IsPartitionPoint-from_clause (λ s. nat_lt s.to t) _ _ c.partition_point.ensures.partitioned
    (tos_parted t xs c.requires) (λ a r q k. search rules) in
    place_is t xs c.partition_point.result point.0 point.1
