use Rattle.std.proofs.Common.{length, ◌<◌, ◌&&◌, ◌||◌, ◌∙◌, ◌++◌, ◌∷◌, not, take, drop, ap, arith, subst, sym}
use Rattle.pm_mail.specs.Heads.{IsFalling, is_in, place, same}
use Rattle.pm_mail.proofs.Ordered.{cut, cut-at, cut-in, falling-cut, falling-put, inserted, place-low, put-at, put-in, put-some}
use Rattle.pm_mail.proofs.heads.Heads.replace.Goals as goal

pub remove-requires : goal.remove-requires
remove-requires c =
    let h = c.args.head in
    let xs = c.self.inside.rows.items in
    let at = c.place-gone.ensures.value ∙ ap (place h) c.as_slice.ensures.value in
    let low = place-low h xs c.self.invariant.0 (ap (is_in h) c.self.view_is ∙ c.requires.there) in
    let len = c.self.inside.rows.ok.0 in
    omega (arith, at, low, len)

pub place-at-requires : goal.place-at-requires
place-at-requires c =
    let h = c.args.head in
    let xs = c.self.inside.rows.items in
    let at = c.place-gone.ensures.value ∙ ap (place h) c.as_slice.ensures.value in
    subst IsFalling (sym (c.as_slice-2.ensures.value ∙ (c.remove.ensures.items ∙ cut-at h xs c.place-gone.result at)))
    (falling-cut h xs c.self.invariant.0)

pub invariant_of-self : goal.invariant_of-self
invariant_of-self c =
    let h = c.args.head in
    let n = c.args.next in
    let xs = c.self.inside.rows.items in
    let at = c.place-gone.ensures.value ∙ ap (place h) c.as_slice.ensures.value in
    let less = c.remove.ensures.items ∙ cut-at h xs c.place-gone.result at in
    let to = c.place-at.ensures.value ∙ ap (place n) (c.as_slice-2.ensures.value ∙ less) in
    let there = ap (is_in h) c.self.view_is ∙ c.requires.there in
    let new = cut-in h n xs c.self.invariant.0 there
    ∙ (ap (λ z. not (same h n) && is_in n z) c.self.view_is ∙ c.requires.new) in
    subst (λ z. IsFalling z × (0 < length z)) (sym (inserted c.insert.result _ _ _ c.insert.ensures.items
    (c.insert.ensures.succeeds (let len = c.remove.ensures.len in
    let capacity = c.remove.ensures.capacity in let fits = c.self.inside.rows.ok.1 in omega (arith, len, capacity, fits)))
    ∙ (ap (λ z. take c.place-at.result z ++ n ∷ drop c.place-at.result z) less
    ∙ put-at n (cut h xs) c.place-at.result to)))
    (falling-put n (cut h xs) (falling-cut h xs c.self.invariant.0) new, put-some n (cut h xs))

pub returns : goal.returns
returns c = λ k.
    let h = c.args.head in
    let n = c.args.next in
    let xs = c.self.inside.rows.items in
    let at = c.place-gone.ensures.value ∙ ap (place h) c.as_slice.ensures.value in
    let less = c.remove.ensures.items ∙ cut-at h xs c.place-gone.result at in
    let to = c.place-at.ensures.value ∙ ap (place n) (c.as_slice-2.ensures.value ∙ less) in
    let there = ap (is_in h) c.self.view_is ∙ c.requires.there in
    ap (is_in k) (inserted c.insert.result _ _ _ c.insert.ensures.items
    (c.insert.ensures.succeeds (let len = c.remove.ensures.len in
    let capacity = c.remove.ensures.capacity in let fits = c.self.inside.rows.ok.1 in omega (arith, len, capacity, fits)))
    ∙ (ap (λ z. take c.place-at.result z ++ n ∷ drop c.place-at.result z) less
    ∙ put-at n (cut h xs) c.place-at.result to))
    ∙ (put-in n k (cut h xs) ∙ ap (λ b. same n k || b)
    (cut-in h k xs c.self.invariant.0 there ∙ ap (λ z. not (same h k) && is_in k z) c.self.view_is))
