use Rattle.std.proofs.Common.{◌≡◌, ◌∙◌, List, Some, ap, subst}
use Rattle.std.specs.Option.{option_map}
use Rattle.pm_ends.specs.Ends.{Inn, Took, froms}
use Rattle.pm_ends.specs.Numbers.{AreRising, nth}
use Rattle.pm_cell.specs.Helds.{Held}
use Rattle.pm_cell.proofs.Choices.{took_next}
use Rattle.pm_cell.proofs.cell.Cell.take_at.Goals as goal

pub returns-clause-item : goal.returns-clause-item
returns-clause-item c =
    let h = c.args.self.now in
    let at = c.args.at in
    let x = c.in_ok-post.post in
    let from = c.in_ok-from.from in
    let e : c.self.inside.inns ≡ h.inns = ap (λ (z : Held). z.inns) c.self.view_is in
    let took : Took at x h.inns c.take.new.self = subst (λ (l : List Inn). Took at x l c.take.new.self) e
    c.in_ok-post.ensures.item in
    let sender : Some from ≡ option_map (λ (i : Inn). i.from) (nth h.inns at) = c.in_ok-from.ensures
    ∙ ap (λ (l : List Inn). option_map (λ (i : Inn). i.from) (nth l at)) e in
    let up : AreRising (froms h.inns) = subst (λ (l : List Inn). AreRising (froms l)) e c.senders_rise.ensures in
    took_next h at x c.take.new.self took c.requires.next from sender up
