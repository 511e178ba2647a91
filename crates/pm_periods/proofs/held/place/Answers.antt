use Rattle.std.proofs.Common.{Bool, not, true, false, Option, get_or, rules, arith}
use Rattle.std.proofs.lemmas.List.Sorted.{IsPartitionPoint-from_clause}
use Rattle.pm_base.specs.declared.rows.PutRow.{PutRow}
use Rattle.pm_periods.specs.Laid.{is_later}
use Rattle.pm_periods.specs.declared.held.Held.{Held}
use Rattle.pm_periods.proofs.Laid.{later_mono, not_false, not_true, parted, point_drop, point_take}
use Rattle.pm_periods.proofs.held.place.Goals as goal

pub returns-clause-before : goal.returns-clause-before
returns-clause-before c =
    let hs = c.args.periods.now in
    let test : Option PutRow → Bool = λ o. not (is_later c.args.row.now o) in
    let point = IsPartitionPoint-from_clause (λ (h : Held). test h.put) hs c.partition_point.result c.partition_point.ensures.partitioned
    (parted test (later_mono c.args.row.now) hs c.requires) (λ a r q f. search rules) in
    point_take (is_later c.args.row.now) false hs c.partition_point.result (λ k d lt. not_true (is_later c.args.row.now (get_or hs k d).put) (point.0 k d (omega arith) lt))

pub returns-clause-after : goal.returns-clause-after
returns-clause-after c =
    let hs = c.args.periods.now in
    let test : Option PutRow → Bool = λ o. not (is_later c.args.row.now o) in
    let point = IsPartitionPoint-from_clause (λ (h : Held). test h.put) hs c.partition_point.result c.partition_point.ensures.partitioned
    (parted test (later_mono c.args.row.now) hs c.requires) (λ a r q f. search rules) in
    point_drop (is_later c.args.row.now) true hs c.partition_point.result (λ k d le lt. not_false (is_later c.args.row.now (get_or hs k d).put) (point.1 k d le lt))
