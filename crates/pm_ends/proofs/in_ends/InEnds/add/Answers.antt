use Rattle.std.proofs.Common.{arith, ◌≡◌, ◌<◌, ◌∙◌, List, [], ◌∷◌, ◌++◌, ap, length, map, subst, sym}
use Rattle.std.specs.List.{AllByRecursion}
use Rattle.std.proofs.lemmas.List.{length-map, map-append}
use Rattle.pm_ends.specs.declared.in_ends.InSide.{InSide}
use Rattle.pm_ends.specs.Ends.{Inn, froms}
use Rattle.pm_ends.specs.Numbers.{AreRising}
use Rattle.pm_ends.specs.Sides.{inn_of}
use Rattle.pm_ends.proofs.Held.{rising_append}
use Rattle.pm_ends.specs.Trees.{IsTree, IsTreeBut}
use Rattle.pm_ends.proofs.Trees.{tree_more}
use Rattle.pm_ends.proofs.in_ends.InEnds.add.Goals as goal

pub invariant_of-self-2 : goal.invariant_of-self-2
invariant_of-self-2 c =
    let xs = c.self.inside.ends.items in
    let all = ap (λ l. froms (map inn_of l)) c.in_ok-push.ensures.items
    ∙ (ap froms (map-append inn_of xs (_ ∷ [])) ∙ map-append (λ x. x.from) (map inn_of xs) (_ ∷ [])) in (
      subst AreRising (sym all) (rising_append (froms (map inn_of xs)) c.args.from c.self.invariant.0
          (subst (λ l. AllByRecursion (λ k. k < c.args.from) (froms l)) (sym c.self.view_is) c.requires.above)),
      subst (λ l. IsTree (map inn_of l) c.mend.new.best.items) c.as_slice.ensures.value c.mend.ensures,
    )

pub mend-requires-clause-but : goal.mend-requires-clause-but
mend-requires-clause-but c =
    let xs : List Inn = map inn_of c.self.inside.ends.items in
    let side : InSide = record { from = c.args.from; slot = c.args.slot; end = c.args.end } in
    let at = c.len-place.result in
    let ends = ap (map inn_of) (c.as_slice.ensures.value ∙ c.in_ok-push.ensures.items)
    ∙ map-append inn_of c.self.inside.ends.items (side ∷ []) in
    let is : at ≡ length xs = omega (
      arith,
      c.len-place.ensures,
      length-map c.self.inside.ends.items inn_of,
      c.self.inside.ends.ok.0,
    ) in
    let best = c.push_reserved.ensures.items ∙ ap (λ l. l ++ at ∷ []) c.reserve.ensures.items in
    subst (λ l. IsTreeBut l c.push_reserved.new.self.items at) (sym ends)
    (subst (λ l. IsTreeBut (xs ++ inn_of side ∷ []) l at) (sym best)
    (tree_more xs c.self.inside.best.items (inn_of side) at is c.self.invariant.1))
