use Rattle.std.proofs.Common.{rules}
use Rattle.std.proofs.lemmas.List.Sorted.{IsPartitionPoint-from_clause}
use Rattle.pm_mail.specs.Heads.{goes_before}
use Rattle.pm_mail.proofs.Ordered.{place-parted, place-point}
use Rattle.pm_mail.proofs.heads.place.Goals as goal

pub returns-clause-value : goal.returns-clause-value
returns-clause-value c =
    let h = c.args.head in
    let point = IsPartitionPoint-from_clause (λ x. goes_before h x) _ _
    c.partition_point.ensures.partitioned (place-parted h c.args.rows.now c.requires) (λ a r q h. search rules) in
    place-point h c.args.rows.now c.partition_point.result c.partition_point.ensures.bound point.0 point.1
