use Rattle.std.proofs.Common.{Bool, true, false, Option, rules, arith}
use Rattle.std.proofs.lemmas.List.Sorted.{IsPartitionPoint-from_clause}
use Rattle.pm_base.specs.declared.rows.PutRow.{PutRow}
use Rattle.pm_periods.specs.Laid.{begins_below}
use Rattle.pm_periods.specs.declared.held.Held.{Held}
use Rattle.pm_periods.proofs.Laid.{below_mono, parted, point_drop, point_take}
use Rattle.pm_periods.proofs.held.reach.Goals as goal

pub returns-clause-before : goal.returns-clause-before
returns-clause-before c =
    let hs = c.args.periods.now in
    let test : Option PutRow → Bool = begins_below c.args.line in
    let point = IsPartitionPoint-from_clause (λ (h : Held). test h.put) hs c.partition_point.result c.partition_point.ensures.partitioned
    (parted test (below_mono c.args.line) hs c.requires) (λ a r q f. search rules) in
    point_take test true hs c.partition_point.result (λ k d lt. point.0 k d (omega arith) lt)

pub returns-clause-after : goal.returns-clause-after
returns-clause-after c =
    let hs = c.args.periods.now in
    let test : Option PutRow → Bool = begins_below c.args.line in
    let point = IsPartitionPoint-from_clause (λ (h : Held). test h.put) hs c.partition_point.result c.partition_point.ensures.partitioned
    (parted test (below_mono c.args.line) hs c.requires) (λ a r q f. search rules) in
    point_drop test false hs c.partition_point.result (λ k d le lt. point.1 k d le lt)
