use Rattle.std.proofs.Common.{◌≡◌, ◌<◌, pos, true, false, Option, Bool, get_or, length, take, rules, arith}
use Rattle.std.specs.List.{AllByRecursion}
use Rattle.std.proofs.lemmas.List.Sorted.{IsPartitionPoint-from_clause}
use Rattle.pm_base.specs.declared.rows.PutRow.{PutRow}
use Rattle.pm_base.specs.declared.value.Change.TheVariants as change
use Rattle.pm_periods.specs.Known.{goes_before}
use Rattle.pm_periods.specs.Laid.{is_of}
use Rattle.pm_periods.specs.declared.held.Held.{Held}
use Rattle.pm_periods.proofs.Laid.{parted}
use Rattle.pm_periods.proofs.Searches.{before_mono, begun-at}
use Rattle.pm_periods.proofs.record.begun_place.Goals as goal

reached : (c : goal.After-partition_point) → (c.partition_point.result < length c.args.periods.now)
    × ((d : Held) → is_of c.args.num (get_or c.args.periods.now c.partition_point.result d).put ≡ true)
    × AllByRecursion (λ (h : Held). is_of c.args.num h.put ≡ false) (take c.partition_point.result c.args.periods.now)
reached c =
    let hs = c.args.periods.now in
    let row : PutRow = record {
      num = c.args.num;
      stamp = c.args.stamp;
      change =
          change.Set (record { x = pos 0; y = pos 0 });
    } in
    let test : Option PutRow → Bool = goes_before row in
    let point =
    IsPartitionPoint-from_clause
    (λ (h : Held). test h.put) hs c.partition_point.result c.partition_point.ensures.partitioned
    (parted test (before_mono row) hs c.requires.order) (λ a r q f. search rules) in
    begun-at row hs c.partition_point.result c.requires.order c.requires.there c.partition_point.ensures.bound
    (λ j d lt. point.0 j d (omega arith) lt) (λ j d le lt. point.1 j d le lt)

pub returns-clause-within : goal.returns-clause-within
returns-clause-within c = (reached c).0

pub returns-clause-found : goal.returns-clause-found
returns-clause-found c = (reached c).1

pub returns-clause-others : goal.returns-clause-others
returns-clause-others c = (reached c).2
