use Rattle.std.proofs.Common.{◌<◌, arith, length, map, refl, subst, sym}
use Rattle.pm_ends.specs.Ends.{AllGrew}
use Rattle.pm_ends.specs.Sides.{inn_of}
use Rattle.pm_ends.proofs.Laws.{all_grew_same}
use Rattle.pm_ends.proofs.Held.{handed_from, held_grew, held_rising, held_took}
use Rattle.pm_ends.specs.Trees.{IsTree, IsTreeBut}
use Rattle.pm_ends.proofs.Trees.{held_but}
use Rattle.pm_ends.proofs.in_ends.InEnds.take.Goals as goal

pub returns-in_default-clause-none : goal.returns-in_default-clause-none
returns-in_default-clause-none c = λ e.
    subst (λ z. AllGrew c.args.self.now z) (sym c.self.view_is) (all_grew_same c.args.self.now)

pub invariant_of-self-2 : goal.invariant_of-self-2
invariant_of-self-2 c = (
  held_rising c.self.inside.ends.items c.args.self.now c.self.view_is c.args.at c.in-Some.side.now
      c.take_next-post.new.side c.in-Some.ensures.value c.self.invariant.0
      (handed_from c.take_next-post.result (inn_of c.in-Some.side.now) (inn_of c.take_next-post.new.side) _
      c.take_next-post.ensures.item c.take_next-post.ensures.none),
  subst (λ l. IsTree (map inn_of l) c.mend.new.best.items) c.as_slice.ensures.value c.mend.ensures,
)

pub mend-requires-clause-but : goal.mend-requires-clause-but
mend-requires-clause-but c = subst (λ l. IsTreeBut (map inn_of l) c.self.inside.best.items c.args.at)
    (sym c.as_slice.ensures.value)
    (held_but c.self.inside.ends.items c.self.inside.best.items c.args.at _ c.self.invariant.1)

pub returns-clause-item : goal.returns-clause-item
returns-clause-item c =
    let v = c.self.inside.ends in
    let lt : c.args.at < length v.items = omega (arith, c.in-Some.ensures.variant.0 refl, v.ok.0) in
    held_took v.items c.args.self.now c.self.view_is c.args.at c.in-Some.side.now c.take_next-post.new.side
    c.in-Some.ensures.value c.take_next-post.result lt c.take_next-post.ensures.item

pub returns-clause-none : goal.returns-clause-none
returns-clause-none c = λ e.
    held_grew c.self.inside.ends.items c.args.self.now c.self.view_is c.args.at c.in-Some.side.now c.take_next-post.new.side
    c.in-Some.ensures.value (c.take_next-post.ensures.none e)
