use Rattle.std.proofs.Common.{◌≡◌, ◌<◌, length, ◌∙◌, get_or}
use Rattle.std.proofs.lemmas.List.{get_or_default}
use Rattle.pm_routes.proofs.Sums.{sum-others, sum-holds}
use Rattle.pm_routes.proofs.counts.Counts.others.Goals as goal

pub overflow_sub-result : goal.overflow_sub-result
overflow_sub-result c =
    let low : c.args.place < length c.self.inside.each.items = rw c.self.view_is c.requires in
    let at : c.index.result.now ≡ get_or c.self.inside.each.items c.args.place 0 = c.index.ensures ∙ get_or_default c.self.inside.each.items c.args.place c.index.result.now 0 low in
    rw at (sum-holds c.self.inside.each.items c.self.inside.sum c.args.place c.self.invariant low)

pub returns : goal.returns
returns c =
    let low : c.args.place < length c.self.inside.each.items = rw c.self.view_is c.requires in
    let at : c.index.result.now ≡ get_or c.self.inside.each.items c.args.place 0 = c.index.ensures ∙ get_or_default c.self.inside.each.items c.args.place c.index.result.now 0 low in
    rw (at, ← c.self.view_is) (sum-others c.self.inside.each.items c.self.inside.sum c.args.place c.self.invariant low)
