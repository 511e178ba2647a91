use Rattle.std.proofs.Common.{◌∙◌, ap, sym}
use Rattle.pm_mail.specs.Headed.{leads}
use Rattle.pm_mail.proofs.Leads.{opened-same}
use Rattle.pm_mail.proofs.mail.Mail.open.Goals as goal

pub invariant_of-self : goal.invariant_of-self
invariant_of-self c = λ t k.
    c.self.invariant t k ∙ sym (ap (leads k)
    (opened-same c.args.to c.args.from t k.from c.open.result _ _ c.open.ensures.ok c.open.ensures.err))
