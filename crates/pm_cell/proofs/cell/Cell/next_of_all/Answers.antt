use Rattle.std.proofs.Common.{◌≡◌, ◌≤◌, ap, arith, length, subst}
use Rattle.pm_cell.specs.Helds.{Held}
use Rattle.pm_cell.proofs.Choices.{IsChosen, chosen_more, front_next, none_next}
use Rattle.pm_cell.proofs.cell.Cell.next_of_all.Goals as goal

pub loop-at-preserved : goal.loop-at-preserved
loop-at-preserved c =
    chosen_more c.args.self.now c.loop-at.at c.loop-at.next c.sooner-next.result c.ready_at.result c.loop-at.invariant
    c.sooner-next.ensures.some c.sooner-next.ensures.none c.ready_at.ensures

pub returns-in-Some : goal.returns-in-Some
returns-in-Some c =
    let h = c.args.self.now in
    let same : length c.self.inside.inns ≡ length h.inns = ap (λ (z : Held). length z.inns) c.self.view_is in
    let le : length h.inns ≤ c.loop-at.at = omega (
      arith,
      c.loop-at-test.false,
      c.loop-at.auto.at-end,
      c.len-at-end.ensures,
      same,
    ) in
    front_next h c.loop-at.at c.in-Some.front le (subst (IsChosen h c.loop-at.at) c.in-Some.is c.loop-at.invariant)

pub returns-in-None : goal.returns-in-None
returns-in-None c =
    let h = c.args.self.now in
    let same : length c.self.inside.inns ≡ length h.inns = ap (λ (z : Held). length z.inns) c.self.view_is in
    let le : length h.inns ≤ c.loop-at.at = omega (
      arith,
      c.loop-at-test.false,
      c.loop-at.auto.at-end,
      c.len-at-end.ensures,
      same,
    ) in
    none_next h c.loop-at.at le (subst (IsChosen h c.loop-at.at) c.in-None.is c.loop-at.invariant)
