use Rattle.std.proofs.Common.{◌∙◌, ◌&&◌, sym, ap}
use Rattle.pm_ranges.specs.Known.{last_covered}
use Rattle.pm_ranges.proofs.Grows.{told-covered}
use Rattle.pm_ranges.proofs.Laying.{covers-lent}
use Rattle.pm_ranges.proofs.bounds.Bounds.covers.Goals as goal

pub returns-then-ends-clause-value : goal.returns-then-ends-clause-value
returns-then-ends-clause-value c =
    let ends = covers-lent _ c.args.self.now c.args.when.now c.args.window.now c.as_slice.result.now c.pieces_cover-ends.result c.self.view_is c.self.invariant.rising c.as_slice.ensures.value c.pieces_cover-ends.ensures in
    c.last_covered.ensures ∙ ap (λ z. z && last_covered c.args.self.now c.args.when.now c.args.window.now c.args.when.now.until) (sym (sym ends ∙ c.if-ends.true))

pub returns-then-ends-clause-exactly : goal.returns-then-ends-clause-exactly
returns-then-ends-clause-exactly c = told-covered c.args.self.now c.args.when.now c.args.window.now c.last_covered.result (returns-then-ends-clause-value c)

pub returns-else-ends-clause-value : goal.returns-else-ends-clause-value
returns-else-ends-clause-value c =
    let ends = covers-lent _ c.args.self.now c.args.when.now c.args.window.now c.as_slice.result.now c.pieces_cover-ends.result c.self.view_is c.self.invariant.rising c.as_slice.ensures.value c.pieces_cover-ends.ensures in
    c.if-ends.false ∙ ap (λ z. z && last_covered c.args.self.now c.args.when.now c.args.window.now c.args.when.now.until) (sym (sym ends ∙ c.if-ends.false))

pub returns-else-ends-clause-exactly : goal.returns-else-ends-clause-exactly
returns-else-ends-clause-exactly c = told-covered c.args.self.now c.args.when.now c.args.window.now c.pieces_cover-ends.result (returns-else-ends-clause-value c)
