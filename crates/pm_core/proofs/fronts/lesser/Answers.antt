use Rattle.std.proofs.Common.{◌∙◌, sym}
use Rattle.pm_core.proofs.FrontLaws.{best_leads, best_stays, found_leads}
use Rattle.pm_core.proofs.fronts.lesser.Goals as goal

pub returns-then-is_before : goal.returns-then-is_before
returns-then-is_before c = λ k lead next.
    best_stays c.args.mail.now c.args.clps k c.args.best c.args.found lead next
    (sym c.is_before.ensures ∙ c.if-is_before.true)

pub returns-then-is_before-2 : goal.returns-then-is_before-2
returns-then-is_before-2 c = λ k lead next.
    found_leads c.args.mail.now c.args.clps k c.args.best c.moves_first-found.result lead
    (c.moves_first-found.ensures k next) (sym c.is_before-2.ensures ∙ c.if-is_before-2.true)

pub returns-else-is_before-2 : goal.returns-else-is_before-2
returns-else-is_before-2 c = λ k lead next.
    best_leads c.args.mail.now c.args.clps k c.args.best c.moves_first-found.result lead
    (c.moves_first-found.ensures k next) (sym c.is_before-2.ensures ∙ c.if-is_before-2.false)
