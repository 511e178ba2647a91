use Rattle.std.proofs.Common.{rules}
use Rattle.std.specs.Prelude.{nat_lt}
use Rattle.std.proofs.lemmas.List.Sorted.{IsPartitionPoint-from_clause, IsPartitionedBy-ltb}
use Rattle.pm_step.proofs.Writes.{place-found, rising-never_falls}
use Rattle.pm_step.proofs.steps.place_of.Goals as goal

pub returns-clause-place : goal.returns-clause-place
returns-clause-place c =
    let parted = IsPartitionedBy-ltb (λ v. v.var) c.args.writes.now c.args.var (rising-never_falls c.args.writes.now c.requires) in
    place-found c.args.var c.args.writes.now c.partition_point.result c.partition_point.ensures.bound
    (IsPartitionPoint-from_clause (λ v. nat_lt v.var c.args.var) _ _ c.partition_point.ensures.partitioned parted (λ a r q k. search rules))
