use Rattle.std.proofs.Common.{◌≡◌, ◌∙◌, ◌-◌, true, false, ap, get_or, subst}
use Rattle.pm_mail.specs.Heads.{goes_before, is_in}
use Rattle.pm_mail.specs.declared.heads.Head.{Head}
use Rattle.pm_mail.proofs.Ordered.{last-of}
use Rattle.pm_mail.proofs.heads.Heads.next.Goals as goal

pub returns-clause-there : goal.returns-clause-there
returns-clause-there c =
    let hs = c.self.inside.rows.items in
    let h = c.index.result.now in
    let at = c.index.ensures ∙ ap (λ n. get_or hs (n - 1) h) (c.len.ensures ∙ c.self.inside.rows.ok.0) in
    subst (λ z. is_in h z ≡ true) c.self.view_is (last-of hs h h c.self.invariant.1 at c.self.invariant.0).0

pub returns-clause-least : goal.returns-clause-least
returns-clause-least c =
    let hs = c.self.inside.rows.items in
    let h = c.index.result.now in
    let at = c.index.ensures ∙ ap (λ n. get_or hs (n - 1) h) (c.len.ensures ∙ c.self.inside.rows.ok.0) in
    subst (λ z. (k : Head) → is_in k z ≡ true → goes_before k h ≡ false) c.self.view_is
    (last-of hs h h c.self.invariant.1 at c.self.invariant.0).1
