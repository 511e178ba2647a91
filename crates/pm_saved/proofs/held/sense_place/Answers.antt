use Rattle.std.proofs.Common.{rules}
use Rattle.std.specs.Prelude.{nat_lt}
use Rattle.std.proofs.lemmas.List.Sorted.{IsPartitionPoint-from_clause}
use Rattle.pm_saved.proofs.Numbers.{senses-parted}
use Rattle.pm_saved.proofs.Searches.{parted-is, passing-found}
use Rattle.pm_saved.proofs.held.sense_place.Goals as goal

pub returns-clause-place : goal.returns-clause-place
returns-clause-place c =
    let xs = c.args.senses.now in
    let q = c.args.seq in
    let parted = parted-is (λ s. nat_lt s.num.seq q) xs (senses-parted q c.requires.0 xs c.requires.1 c.requires.2) in
    passing-found (λ s. nat_lt s.num.seq q) xs c.partition_point.result c.partition_point.ensures.bound
    (IsPartitionPoint-from_clause (λ s. nat_lt s.num.seq q) _ _ c.partition_point.ensures.partitioned parted
    (λ a r q k. search rules))
