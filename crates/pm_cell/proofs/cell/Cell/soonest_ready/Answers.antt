use Rattle.std.proofs.Common.{◌∙◌, List, ap, subst, sym}
use Rattle.pm_ends.specs.Ends.{Inn}
use Rattle.pm_ends.specs.Trees.{IsSoonest}
use Rattle.pm_cell.specs.Helds.{Held}
use Rattle.pm_cell.proofs.Choices.{soonest_next}
use Rattle.pm_cell.proofs.cell.Cell.soonest_ready.Goals as goal

pub returns-in-Some : goal.returns-in-Some
returns-in-Some c =
    let at = c.in_ok-at.at in
    soonest_next c.args.self.now at c.in-Some.field-0
    (subst (λ (l : List Inn). IsSoonest l at) (ap (λ (z : Held). z.inns) c.self.view_is) c.in_ok-at.ensures)
    (sym c.ready_at.ensures ∙ c.in-Some.is)
