use Rattle.std.proofs.Common.{◌∙◌, ap, sym}
use Rattle.pm_mail.specs.Headed.{leads}
use Rattle.pm_mail.specs.Heads.{heads_at, is_in}
use Rattle.pm_mail.proofs.Steps.{entered, no-first, posted-same}
use Rattle.pm_mail.proofs.mail.Mail.post.Goals as goal

pub invariant_of-self : goal.invariant_of-self
invariant_of-self c = λ t k.
    c.self.invariant t k ∙ sym (ap (leads k)
    (posted-same c.args.to c.args.from c.args.message c.post.result c.self.inside.links _ c.first.result c.first.ensures
    (sym c.is_some.ensures ∙ c.if-is_some.true) c.post.ensures.ok c.post.ensures.err t k.from))

pub invariant_of-self-in_default : goal.invariant_of-self-in_default
invariant_of-self-in_default c =
    let i = c.self.inside in
    entered (λ t k. is_in k (heads_at t i.heads)) i.links c.self.invariant c.args.to c.args.from c.args.message
    c.stamp.result c.stamp.ensures
    (no-first c.first.result _ c.first.ensures (sym c.is_some.ensures ∙ c.if-is_some.false))
    (λ t k. is_in k (heads_at t c.enter.new.heads)) c.in_ok-enter.ensures.ok _ c.in_default.ensures.ok
