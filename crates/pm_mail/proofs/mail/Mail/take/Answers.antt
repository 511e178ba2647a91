use Rattle.std.proofs.Common.{◌∙◌, ap, sym}
use Rattle.pm_mail.specs.Headed.{leads}
use Rattle.pm_mail.specs.Heads.{heads_at, is_in}
use Rattle.pm_mail.proofs.Steps.{followed, left-all, nothing-taken}
use Rattle.pm_mail.proofs.mail.Mail.take.Goals as goal

pub invariant_of-self : goal.invariant_of-self
invariant_of-self c = λ t k.
    c.self.invariant t k ∙ sym (ap (leads k) (nothing-taken c.args.to c.args.from c.self.inside.links _
    c.take.ensures.links (sym c.in_err-message.ensures.message) t k.from))

pub invariant_of-self-in-Some : goal.invariant_of-self-in-Some
invariant_of-self-in-Some c =
    let i = c.self.inside in
    followed (λ t k. is_in k (heads_at t i.heads)) i.links c.self.invariant c.args.to c.args.from
    c.in_ok-message.message c.stamp.result c.stamp.ensures (sym c.in_ok-message.ensures.message)
    (λ t k. is_in k (heads_at t c.follow.new.heads)) c.take.new.self c.take.ensures.links
    c.in-Some.stamp (sym c.in-Some.ensures) c.follow.ensures

pub invariant_of-self-in-None : goal.invariant_of-self-in-None
invariant_of-self-in-None c =
    let i = c.self.inside in
    left-all (λ t k. is_in k (heads_at t i.heads)) i.links c.self.invariant c.args.to c.args.from
    c.in_ok-message.message c.stamp.result c.stamp.ensures (sym c.in_ok-message.ensures.message)
    (λ t k. is_in k (heads_at t c.leave.new.heads)) c.take.new.self c.take.ensures.links
    (sym c.in-None.ensures) c.leave.ensures
