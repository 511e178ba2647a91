use Rattle.std.proofs.Common.{◌≡◌, ◌∙◌, drop, sym, subst, true}
use Rattle.pm_ranges.specs.Laid.{ends_at}
use Rattle.pm_ranges.proofs.Laying.{parted-there, parted-put}
use Rattle.pm_ranges.proofs.pieces.parted.Goals as goal

pub returns-then-ends_at : goal.returns-then-ends_at
returns-then-ends_at c =
    let there = sym c.ends_at.ensures ∙ c.if-ends_at.true in
    c.in_ok-parts.ensures.items ∙ parted-there c.args.e c.args.pieces.now c.args.rest.now (subst (λ k. ends_at c.args.e (drop k c.args.pieces.now) ≡ true) c.before-place.ensures.value there)

pub returns : goal.returns
returns c =
    c.in_ok-insert.ensures.items
    ∙ parted-put c.args.e c.args.pieces.now c.in_ok-parts.parts.items c.args.rest.now c.bound_of-window.result c.before-place.result c.in_ok-parts.ensures.items c.before-place.ensures.value c.bound_of-window.ensures (sym c.ends_at.ensures ∙ c.if-ends_at.false)
