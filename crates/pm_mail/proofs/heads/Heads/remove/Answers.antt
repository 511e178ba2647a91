use Rattle.std.proofs.Common.{◌==◌, length, ◌<◌, ◌&&◌, ◌∙◌, not, ap, arith, subst, sym}
use Rattle.pm_mail.specs.Heads.{IsFalling, is_in, place, same}
use Rattle.pm_mail.proofs.Ordered.{cut-at, cut-in, cut-some, falling-cut, place-low}
use Rattle.pm_mail.proofs.heads.Heads.remove.Goals as goal

pub remove-requires : goal.remove-requires
remove-requires c =
    let h = c.args.head in
    let xs = c.self.inside.rows.items in
    let at = c.place-at.ensures.value ∙ ap (place h) c.as_slice.ensures.value in
    let low = place-low h xs c.self.invariant.0 (ap (is_in h) c.self.view_is ∙ c.requires.there) in
    let len = c.self.inside.rows.ok.0 in
    omega (arith, at, low, len)

pub returns : goal.returns
returns c = λ k.
    let h = c.args.head in
    let xs = c.self.inside.rows.items in
    let at = c.place-at.ensures.value ∙ ap (place h) c.as_slice.ensures.value in
    let there = ap (is_in h) c.self.view_is ∙ c.requires.there in
    ap (is_in k) (c.remove.ensures.items ∙ cut-at h xs c.place-at.result at)
    ∙ (cut-in h k xs c.self.invariant.0 there ∙ ap (λ z. not (same h k) && is_in k z) c.self.view_is)

pub invariant_of-self : goal.invariant_of-self
invariant_of-self c =
    let h = c.args.head in
    let xs = c.self.inside.rows.items in
    let at = c.place-at.ensures.value ∙ ap (place h) c.as_slice.ensures.value in
    let there = ap (is_in h) c.self.view_is ∙ c.requires.there in
    let others = ap (λ z. length z == 1) c.self.view_is ∙ c.requires.others in
    subst (λ z. IsFalling z × (0 < length z)) (sym (c.remove.ensures.items ∙ cut-at h xs c.place-at.result at))
    (falling-cut h xs c.self.invariant.0, cut-some h xs there others)
