use Rattle.std.proofs.Common.{◌<◌, ◌∙◌, ap, arith, length, set, subst, sym, []}
use Rattle.std.specs.BTreeMap.{get}
use Rattle.std.proofs.lemmas.List.{get_or_default}
use Rattle.std.proofs.lemmas.List.Edits.{map_over_more}
use Rattle.pm_periods.proofs.Ordered.{written_before}
use Rattle.pm_queries.specs.Laid.{num_cmp}
use Rattle.pm_periods.specs.Rows.{IsInOrder}
use Rattle.pm_queries.specs.Queries.{not_below, registered_key}
use Rattle.pm_queries.proofs.Layouts.{drops-more, rise-at}
use Rattle.pm_queries.proofs.Rows.{rising-in_order}
use Rattle.pm_queries.proofs.queries.drop_below.Goals as goal

pub drop_below-requires : goal.drop_below-requires
drop_below-requires c =
    let xs = c.args.classes.now.items in
    let i = c.loop-at.at in
    let x = c.index_mut-rows.result.now in
    let more = c.loop-at-test.true in
    let end = c.len-at-end.ensures in
    let len = c.args.classes.now.ok.0 in
    let low : c.loop-at.at < length c.args.classes.now.items = omega (arith, more, end, len) in
    let is = c.index_mut-rows.ensures.value
    ∙ written_before (not_below c.args.line.now) xs c.loop-at.classes.items i x low c.loop-at.invariant.classes in
    subst (IsInOrder registered_key) (sym (is ∙ get_or_default xs i x [] low))
    (rising-in_order _ (rise-at xs i c.requires))

pub loop-at-preserved : goal.loop-at-preserved
loop-at-preserved c =
    let xs = c.args.classes.now.items in
    let ys = c.loop-at.classes.items in
    let i = c.loop-at.at in
    let x = c.index_mut-rows.result.now in
    let more = c.loop-at-test.true in
    let end = c.len-at-end.ensures in
    let len = c.args.classes.now.ok.0 in
    let low : c.loop-at.at < length c.args.classes.now.items = omega (arith, more, end, len) in
    record {
      classes = ap (set ys i) c.drop_below.ensures.rows ∙ map_over_more
          (not_below c.args.line.now) xs ys i x low c.loop-at.invariant.classes c.index_mut-rows.ensures.value;
      spots = λ n.
          drops-more n c.args.line.now xs i x (get num_cmp c.loop-at.spots n)
          (get num_cmp c.drop_below.new.spots n) (get num_cmp c.args.spots.now n) low
          (c.index_mut-rows.ensures.value
          ∙ written_before (not_below c.args.line.now) xs ys i x low c.loop-at.invariant.classes)
          (c.loop-at.invariant.spots n) (c.drop_below.ensures.spots n);
    }
