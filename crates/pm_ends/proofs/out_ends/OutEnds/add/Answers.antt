use Rattle.std.proofs.Common.{◌<◌, ◌∙◌, [], ◌∷◌, ap, map, subst, sym}
use Rattle.std.specs.List.{AllByRecursion}
use Rattle.std.proofs.lemmas.List.{map-append}
use Rattle.pm_ends.specs.Ends.{tos}
use Rattle.pm_ends.specs.Numbers.{AreRising}
use Rattle.pm_ends.specs.Sides.{out_of}
use Rattle.pm_ends.proofs.Held.{rising_append}
use Rattle.pm_ends.proofs.out_ends.OutEnds.add.Goals as goal

pub invariant_of-self-2 : goal.invariant_of-self-2
invariant_of-self-2 c =
    let xs = c.self.inside.ends.items in
    let all = ap (λ l. tos (map out_of l)) c.in_ok-push.ensures.items
    ∙ (ap tos (map-append out_of xs (_ ∷ [])) ∙ map-append (λ x. x.to) (map out_of xs) (_ ∷ [])) in
    subst AreRising (sym all) (rising_append (tos (map out_of xs)) c.args.to c.self.invariant
    (subst (λ l. AllByRecursion (λ k. k < c.args.to) (tos l)) (sym c.self.view_is) c.requires.above))
