use Rattle.std.proofs.Common.{◌<◌, ◌∙◌, ap, arith, length, set, subst, sym}
use Rattle.std.proofs.lemmas.List.Edits.{map_over_more}
use Rattle.pm_periods.proofs.Ordered.{written_before}
use Rattle.pm_queries.specs.Laid.{SameRows}
use Rattle.pm_queries.specs.Queries.{catches_by, caught_by}
use Rattle.pm_tables.specs.Tables.{known_in}
use Rattle.pm_queries.proofs.Caught.{asks-more, caught-err, caught-same}
use Rattle.pm_queries.proofs.Spots.{same-written}
use Rattle.pm_queries.proofs.class_rows.catch_each.Goals as goal

pub loop-at-preserved : goal.loop-at-preserved
loop-at-preserved c =
    let b = known_in c.args.place c.args.class c.args.table.now in
    let xs = c.args.rows.now.items in
    let ys = c.loop-at.rows.items in
    let i = c.loop-at.at in
    let x = c.index_mut-row.result.now in
    let more = c.loop-at-test.true in
    let end = c.len-at-end.ensures in
    let len = c.args.rows.now.ok.0 in
    let low : c.loop-at.at < length c.args.rows.now.items = omega (arith, more, end, len) in
    record {
      rows = ap (set ys i) c.in_ok-catch_one.ensures.row
          ∙ map_over_more
          (caught_by b c.args.port c.args.class) xs ys i x low c.loop-at.invariant.rows c.index_mut-row.ensures.value;
      out = asks-more (catches_by b c.args.port c.args.class)
          c.args.port xs i x c.args.out.now c.loop-at.out c.catch_one.new.out low
          (c.index_mut-row.ensures.value
          ∙ written_before (caught_by b c.args.port c.args.class) xs ys i x low c.loop-at.invariant.rows)
          c.loop-at.invariant.out c.in_ok-catch_one.ensures.out;
    }

pub returns-in_err-catch_one-clause-same : goal.returns-in_err-catch_one-clause-same
returns-in_err-catch_one-clause-same c =
    let b = known_in c.args.place c.args.class c.args.table.now in
    caught-err (caught_by b c.args.port c.args.class) (caught-same b c.args.port c.args.class)
    c.args.rows.now.items c.loop-at.rows.items c.loop-at.at c.index_mut-row.result.now
    c.catch_one.new.row c.loop-at.invariant.rows c.index_mut-row.ensures.value c.in_err-catch_one.ensures.err

pub returns-clause-same : goal.returns-clause-same
returns-clause-same c =
    let b = known_in c.args.place c.args.class c.args.table.now in
    subst (SameRows c.args.rows.now.items) (sym c.loop-at.invariant.rows)
    (same-written (caught_by b c.args.port c.args.class)
    (caught-same b c.args.port c.args.class) c.args.rows.now.items c.loop-at.at)
