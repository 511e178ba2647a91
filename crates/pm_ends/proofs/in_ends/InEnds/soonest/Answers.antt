use Rattle.std.proofs.Common.{◌∙◌, ap, get_or, map, subst, sym}
use Rattle.pm_ends.specs.Sides.{inn_of}
use Rattle.pm_ends.specs.Trees.{IsSoonest, moment_at}
use Rattle.pm_ends.proofs.Trees.{is_soonest, none_soonest}
use Rattle.pm_ends.proofs.in_ends.InEnds.soonest.Goals as goal

pub returns-in-Some : goal.returns-in-Some
returns-in-Some c =
    let xs = map inn_of c.self.inside.ends.items in
    let best = c.self.inside.best.items in
    let top = c.top-first.ensures ∙ ap (λ l. get_or l 0 0) c.as_slice.ensures.value in
    let here = ap (moment_at xs) (sym top) ∙ ap (λ l. moment_at (map inn_of l) c.top-first.result) (sym c.as_slice-2.ensures.value)
    ∙ sym c.moment.ensures ∙ c.in-Some.is in
    subst (λ l. IsSoonest l c.top-first.result) c.self.view_is
    (subst (IsSoonest xs) (sym top) (is_soonest xs best c.self.invariant.1 c.in-Some.field-0 here))

pub returns-in-None : goal.returns-in-None
returns-in-None c = λ i.
    let xs = map inn_of c.self.inside.ends.items in
    let best = c.self.inside.best.items in
    let top = c.top-first.ensures ∙ ap (λ l. get_or l 0 0) c.as_slice.ensures.value in
    let none = ap (moment_at xs) (sym top) ∙ ap (λ l. moment_at (map inn_of l) c.top-first.result) (sym c.as_slice-2.ensures.value)
    ∙ sym c.moment.ensures ∙ c.in-None.is in
    ap (λ l. moment_at l i) (sym c.self.view_is) ∙ none_soonest xs best c.self.invariant.1 none i
