use Rattle.std.proofs.Common.{rules}
use Rattle.std.specs.Prelude.{nat_le}
use Rattle.std.proofs.lemmas.List.Sorted.{IsPartitionPoint-from_clause}
use Rattle.pm_saved.proofs.Numbers.{steps-parted}
use Rattle.pm_saved.proofs.Searches.{parted-is, passing-found}
use Rattle.pm_saved.proofs.steps.step_place.Goals as goal

pub returns-clause-place : goal.returns-clause-place
returns-clause-place c =
    let hs = c.args.steps.now.items in
    let q = c.args.seq in
    let parted = parted-is (λ h. nat_le h.next q) hs (steps-parted q 0 hs c.requires.0 c.requires.1) in
    passing-found (λ h. nat_le h.next q) hs c.partition_point.result (search rules)
    (IsPartitionPoint-from_clause (λ h. nat_le h.next q) _ _ c.partition_point.ensures.partitioned parted
    (λ a r q k. search rules))
