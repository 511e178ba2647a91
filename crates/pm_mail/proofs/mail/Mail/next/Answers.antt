use Rattle.std.proofs.Common.{◌≡◌, ℕ, [], false, subst}
use Rattle.pm_mail.specs.Heads.{heads_at}
use Rattle.pm_mail.specs.Links.{is_before, waiting}
use Rattle.pm_mail.proofs.Leads.{next-least, next-none}
use Rattle.pm_mail.proofs.mail.Mail.next.Goals as goal

pub returns-in-Some-clause-least : goal.returns-in-Some-clause-least
returns-in-Some-clause-least c =
    let i = c.self.inside in
    subst (λ ls. (g : ℕ) → is_before c.args.to g c.in-Some.head.from ls ≡ false) c.self.view_is
    (next-least c.args.to (heads_at c.args.to i.heads) i.links (c.self.invariant c.args.to)
    c.in-Some.head c.in-Some.ensures.there c.in-Some.ensures.least)

pub returns-in-None-clause-none : goal.returns-in-None-clause-none
returns-in-None-clause-none c =
    let i = c.self.inside in
    subst (λ ls. (g : ℕ) → waiting c.args.to g ls ≡ []) c.self.view_is
    (next-none c.args.to (heads_at c.args.to i.heads) i.links (c.self.invariant c.args.to) c.in-None.ensures.none)
