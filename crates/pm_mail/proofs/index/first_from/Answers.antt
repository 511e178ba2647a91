use Rattle.std.proofs.Common.{◌≡◌, true, subst, sym}
use Rattle.pm_mail.specs.Heads.{is_in}
use Rattle.pm_mail.specs.declared.heads.Head.{Head}
use Rattle.pm_mail.proofs.Ranges.{found-from, found-heads, found-least, found-none}
use Rattle.pm_mail.proofs.index.first_from.Goals as goal

pub returns-in-Some-clause-from : goal.returns-in-Some-clause-from
returns-in-Some-clause-from c =
    found-from c.args.heads.now c.args.start _ (c.range.ensures.in_range tt) _ _ _ c.in-Some.ensures.steps

pub returns-in-Some-clause-there : goal.returns-in-Some-clause-there
returns-in-Some-clause-there c =
    subst (λ z. (k : Head) × (is_in k z ≡ true))
    (sym (found-heads
    c.args.heads.now c.args.start _ (c.range.ensures.in_range tt) _ _ _ c.in-Some.ensures.steps)) c.never_empty.ensures

pub returns-in-Some-clause-least : goal.returns-in-Some-clause-least
returns-in-Some-clause-least c =
    found-least c.args.heads.now c.args.start _ (c.range.ensures.in_range tt) _ _ _ c.in-Some.ensures.steps

pub returns-in-None-clause-none : goal.returns-in-None-clause-none
returns-in-None-clause-none c =
    found-none c.args.heads.now c.args.start _ (c.range.ensures.in_range tt) c.in-None.ensures.steps.0
