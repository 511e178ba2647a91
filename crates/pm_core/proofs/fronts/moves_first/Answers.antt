use Rattle.pm_core.proofs.FrontLaws.{leads_moving}
use Rattle.pm_core.proofs.fronts.moves_first.Goals as goal

pub returns-in-Some : goal.returns-in-Some
returns-in-Some c = λ to next.
    leads_moving c.args.mail.now c.args.clps to c.args.found c.in-Some.front next
    c.in-Some.ensures.some c.in-Some.ensures.first
