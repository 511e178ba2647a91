use Rattle.std.proofs.Common.{rules}
use Rattle.std.specs.Prelude.{nat_lt}
use Rattle.std.proofs.lemmas.List.Sorted.{IsPartitionPoint-from_clause}
use Rattle.pm_saved.proofs.HitLemmas.{hits-parted}
use Rattle.pm_saved.proofs.Searches.{parted-is, passing-found}
use Rattle.pm_saved.proofs.hits.place_of.Goals as goal

pub returns-clause-place : goal.returns-clause-place
returns-clause-place c =
    let parted = parted-is (λ k. nat_lt k.var c.args.var) c.args.hits.now
    (hits-parted c.args.var c.args.hits.now c.requires) in
    passing-found (λ k. nat_lt k.var c.args.var) c.args.hits.now c.partition_point.result
    c.partition_point.ensures.bound
    (IsPartitionPoint-from_clause (λ k. nat_lt k.var c.args.var) _ _ c.partition_point.ensures.partitioned parted
    (λ a r q k. search rules))
