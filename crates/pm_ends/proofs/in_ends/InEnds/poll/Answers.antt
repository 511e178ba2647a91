use Rattle.std.proofs.Common.{arith, map, refl, subst, sym}
use Rattle.pm_ends.specs.Ends.{AllGrew}
use Rattle.pm_ends.specs.Sides.{inn_of}
use Rattle.pm_ends.specs.Trees.{IsTree, IsTreeBut}
use Rattle.pm_ends.proofs.Laws.{all_grew_same}
use Rattle.pm_ends.proofs.Held.{held_grew, held_rising}
use Rattle.pm_ends.proofs.Trees.{held_but, held_tree}
use Rattle.pm_ends.proofs.in_ends.InEnds.poll.Goals as goal

pub returns-in_default : goal.returns-in_default
returns-in_default c = subst (λ z. AllGrew c.args.self.now z) (sym c.self.view_is) (all_grew_same c.args.self.now)

pub invariant_of-self-then-not-look : goal.invariant_of-self-then-not-look
invariant_of-self-then-not-look c = (
  held_rising c.self.inside.ends.items c.args.self.now c.self.view_is c.args.at c.in-Some.side.now c.look.new.side
      c.in-Some.ensures.value c.self.invariant.0 c.look.ensures.grew.from,
  held_tree c.self.inside.ends.items c.self.inside.best.items c.args.at c.in-Some.side.now c.look.new.side
      c.in-Some.ensures.value (omega (arith, c.in-Some.ensures.variant.0 refl, c.self.inside.ends.ok.0))
      (c.look.ensures.same c.if-not-look.true) c.self.invariant.1,
)

pub returns-then-not-look : goal.returns-then-not-look
returns-then-not-look c = held_grew c.self.inside.ends.items c.args.self.now c.self.view_is c.args.at c.in-Some.side.now
    c.look.new.side c.in-Some.ensures.value c.look.ensures.grew

pub mend-requires-clause-but : goal.mend-requires-clause-but
mend-requires-clause-but c = subst (λ l. IsTreeBut (map inn_of l) c.self.inside.best.items c.args.at)
    (sym c.as_slice.ensures.value)
    (held_but c.self.inside.ends.items c.self.inside.best.items c.args.at _ c.self.invariant.1)

pub invariant_of-self-2 : goal.invariant_of-self-2
invariant_of-self-2 c = (
  held_rising c.self.inside.ends.items c.args.self.now c.self.view_is c.args.at c.in-Some.side.now c.look.new.side
      c.in-Some.ensures.value c.self.invariant.0 c.look.ensures.grew.from,
  subst (λ l. IsTree (map inn_of l) c.mend.new.best.items) c.as_slice.ensures.value c.mend.ensures,
)

pub returns : goal.returns
returns c = held_grew c.self.inside.ends.items c.args.self.now c.self.view_is c.args.at c.in-Some.side.now
    c.look.new.side c.in-Some.ensures.value c.look.ensures.grew
