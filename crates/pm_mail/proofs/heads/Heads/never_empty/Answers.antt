use Rattle.std.proofs.Common.{◌≡◌, true, subst}
use Rattle.pm_mail.specs.Heads.{is_in}
use Rattle.pm_mail.specs.declared.heads.Head.{Head}
use Rattle.pm_mail.proofs.Ordered.{first-in}
use Rattle.pm_mail.proofs.heads.Heads.never_empty.Goals as goal

pub returns : goal.returns
returns c =
    subst (λ z. (k : Head) × (is_in k z ≡ true)) c.self.view_is (first-in c.self.inside.rows.items c.self.invariant.1)
