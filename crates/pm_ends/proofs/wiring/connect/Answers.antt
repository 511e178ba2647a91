use Rattle.std.proofs.Common.{◌≡◌, ◌<◌, ◌≤◌, ◌∙◌, [], List, arith, length, subst, sym}
use Rattle.std.specs.List.{AllByRecursion}
use Rattle.std.proofs.lemmas.List.{length-map}
use Rattle.pm_ends.specs.Ends.{Inn, Out, froms, tos}
use Rattle.pm_ends.specs.Numbers.{AreRising}
use Rattle.pm_ends.proofs.Lists.{any_same}
use Rattle.pm_ends.proofs.Wirings.{few}
use Rattle.pm_ends.proofs.wiring.connect.Goals as goal

pub overflow_cast-slot : goal.overflow_cast-slot
overflow_cast-slot c =
    let xs : List (List Out) = c.args.outs.now.items in
    let d : List Out = c.index-2.result.now in
    let e : List Out = c.index.result.now in
    let all : AllByRecursion (λ k. k < c.args.to) (tos d) = subst
    (λ (l : List Out). AllByRecursion (λ k. k < c.args.to) (tos l))
    (any_same xs c.args.from [] d c.requires.below.1 ∙ sym c.index-2.ensures) c.requires.receivers in
    let up : AreRising (tos d) = subst (λ (l : List Out). AreRising (tos l))
    (c.index.ensures ∙ any_same xs c.args.from e d c.requires.below.1 ∙ sym c.index-2.ensures) c.receivers_rise.ensures
    in
    let le : length (tos d) ≤ c.args.to = few c.args.to (tos d) up all in
    let long : length (tos d) ≡ length d = length-map d (λ (o : Out). o.to) in
    omega (arith, le, long, c.len-slot.ensures, c.ranges.to.fits)

pub add-requires : goal.add-requires
add-requires c = record {
  above = subst (λ (l : List Out). AllByRecursion (λ k. k < c.args.to) (tos l))
      (any_same c.args.outs.now.items c.args.from [] c.index_mut.result.now c.requires.below.1
      ∙ sym c.index_mut.ensures.value) c.requires.receivers;
}

pub add-requires-2 : goal.add-requires-2
add-requires-2 c = record {
  above = subst (λ (l : List Inn). AllByRecursion (λ k. k < c.args.from) (froms l))
      (any_same c.args.inns.now.items c.args.to [] c.index_mut-2.result.now c.requires.below.0
      ∙ sym c.index_mut-2.ensures.value) c.requires.senders;
}
