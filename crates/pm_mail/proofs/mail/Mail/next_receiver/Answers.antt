use Rattle.std.proofs.Common.{ℕ, ◌<◌, ◌≤◌, subst}
use Rattle.std.specs.Prelude.{IfNone, IfSome}
use Rattle.pm_mail.specs.Heads.{heads_at}
use Rattle.pm_mail.specs.Links.{IsAwaited, IsIdle}
use Rattle.pm_mail.proofs.Steps.{none-idle, one-awaited, others-idle}
use Rattle.pm_mail.proofs.mail.Mail.next_receiver.Goals as goal

pub returns-clause-there : goal.returns-clause-there
returns-clause-there c =
    let i = c.self.inside in
    subst (λ ls. IfSome c.first_from.result (λ to. IsAwaited to ls)) c.self.view_is
    (one-awaited (λ t. heads_at t i.heads) i.links c.self.invariant c.first_from.result c.first_from.ensures.there)

pub returns-clause-least : goal.returns-clause-least
returns-clause-least c =
    let i = c.self.inside in
    subst (λ ls. IfSome c.first_from.result (λ to. (t : ℕ) → c.args.start ≤ t → t < to → IsIdle t ls)) c.self.view_is
    (others-idle (λ t. heads_at t i.heads) i.links c.self.invariant c.args.start c.first_from.result
    c.first_from.ensures.least)

pub returns-clause-none : goal.returns-clause-none
returns-clause-none c =
    let i = c.self.inside in
    subst (λ ls. IfNone c.first_from.result ((t : ℕ) → c.args.start ≤ t → IsIdle t ls)) c.self.view_is
    (none-idle (λ t. heads_at t i.heads) i.links c.self.invariant c.args.start c.first_from.result
    c.first_from.ensures.none)
