use Rattle.pm_core.proofs.FrontLaws.{best_both, best_first, best_idle}
use Rattle.pm_core.proofs.fronts.better.Goals as goal

pub returns-in_default : goal.returns-in_default
returns-in_default c = λ best.
    best_idle c.args.mail.now c.args.clps c.args.to c.args.best best (c.next_front.ensures.none c.in_default.is)

pub returns-in-Some-best : goal.returns-in-Some-best
returns-in-Some-best c = λ best.
    best_both c.args.mail.now c.args.clps c.args.to c.args.best c.in-Some-best.best c.lesser.result c.in-Some-best.is
    best (λ lead. c.lesser.ensures c.args.to lead c.in-Some.ensures.some)

pub returns-in-None : goal.returns-in-None
returns-in-None c = λ best.
    best_first c.args.mail.now c.args.clps c.args.to c.args.best c.moves_first.result c.in-None.is best
    (c.moves_first.ensures c.args.to c.in-Some.ensures.some)
