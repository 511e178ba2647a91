use Rattle.std.proofs.Common.{length, ◌<◌, ◌||◌, ◌∙◌, ap, subst, sym}
use Rattle.pm_mail.specs.Heads.{IsFalling, is_in, place, same}
use Rattle.pm_mail.proofs.Ordered.{falling-put, put-at, put-in, put-some}
use Rattle.pm_mail.proofs.heads.Heads.add.Goals as goal

pub returns-clause-ok : goal.returns-clause-ok
returns-clause-ok c = λ k.
    let h = c.args.head in
    let xs = c.self.inside.rows.items in
    let at = c.place-at.ensures.value ∙ ap (place h) c.as_slice.ensures.value in
    ap (is_in k) (c.in_ok-insert.ensures.items ∙ put-at h xs c.place-at.result at)
    ∙ (put-in h k xs ∙ ap (λ z. same h k || is_in k z) c.self.view_is)

pub invariant_of-self-2 : goal.invariant_of-self-2
invariant_of-self-2 c =
    let h = c.args.head in
    let xs = c.self.inside.rows.items in
    let at = c.place-at.ensures.value ∙ ap (place h) c.as_slice.ensures.value in
    subst (λ z. IsFalling z × (0 < length z)) (sym (c.in_ok-insert.ensures.items ∙ put-at h xs c.place-at.result at))
    (falling-put h xs c.self.invariant.0 (ap (is_in h) c.self.view_is ∙ c.requires), put-some h xs)
