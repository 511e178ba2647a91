use Rattle.std.proofs.Common.{◌≡◌, ◌<◌, length, ◌∙◌, arith, get_or}
use Rattle.std.proofs.lemmas.List.{get_or_default}
use Rattle.pm_routes.proofs.Sums.{sum-room, summed-set}
use Rattle.pm_routes.proofs.counts.Counts.raise.Goals as goal

pub overflow_add-self : goal.overflow_add-self
overflow_add-self c =
    let room = sum-room c.self.inside.each.items c.self.inside.sum c.self.invariant in
    let is = c.saturating_add-after.ensures in
    omega (arith, room, is)

pub invariant_of-self : goal.invariant_of-self
invariant_of-self c =
    let low : c.args.place < length c.self.inside.each.items = rw c.self.view_is c.requires in
    let at : c.index-before.result.now ≡ get_or c.self.inside.each.items c.args.place 0 = c.index-before.ensures ∙ get_or_default c.self.inside.each.items c.args.place c.index-before.result.now 0 low in
    let is = c.saturating_add-after.ensures in
    rw at (summed-set c.self.inside.each.items c.self.inside.sum c.args.place c.saturating_add-after.result c.self.invariant low (omega (arith, is)) (omega (arith, is, at)))
