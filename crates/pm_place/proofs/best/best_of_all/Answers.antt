use Rattle.std.proofs.Common.{refl, sym, subst, arith}
use Rattle.pm_place.proofs.Grown.{all-at, best-more, best-none, grown-small}
use Rattle.pm_place.specs.Bests.{IsCheap}
use Rattle.pm_place.proofs.best.best_of_all.Goals as goal

pub loop-counts-init : goal.loop-counts-init
loop-counts-init c = record {
  best = best-none c.args.distances.now c.args.rows.now _ c.new.ensures c.new-2.ensures refl;
  small = omega arith;
}

pub add_best-requires : goal.add_best-requires
add_best-requires c =
    let cheap = all-at (IsCheap c.args.distances.now) c.args.rows.now c.loop-counts.counts-index c.counts-item.result c.loop-counts-test.true c.counts-item.is c.requires.small in
    record {
      some = c.requires.some;
      few = c.requires.few;
      small = subst (IsCheap c.args.distances.now) (sym c.as_slice.ensures) cheap;
      total = omega (arith, c.loop-counts.invariant.small, c.requires.vars, c.loop-counts-test.true);
    }

pub loop-counts-preserved : goal.loop-counts-preserved
loop-counts-preserved c =
    let cheap = all-at (IsCheap c.args.distances.now) c.args.rows.now c.loop-counts.counts-index c.counts-item.result c.loop-counts-test.true c.counts-item.is c.requires.small in
    let grown = rw c.as_slice.ensures at c.in_ok-add_best.ensures in
    let more = grown-small c.counts-item.result c.args.distances.now c.loop-counts.placing c.add_best.new.placing cheap grown in
    record {
      best = best-more c.args.distances.now c.args.rows.now c.loop-counts.counts-index c.counts-item.result c.loop-counts.placing c.add_best.new.placing
          c.loop-counts-test.true c.counts-item.is c.loop-counts.invariant.best grown;
      small = omega (arith, more, c.loop-counts.invariant.small);
    }
