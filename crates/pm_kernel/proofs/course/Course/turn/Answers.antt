use Rattle.std.proofs.Common.{subst}
use Rattle.std.specs.Prelude.{IfSome}
use Rattle.pm_core.specs.Picks.{IsFree}
use Rattle.pm_kernel.proofs.Going.{free_legal, gone_one}
use Rattle.pm_kernel.proofs.course.Course.turn.Goals as goal

pub returns-clause-gone : goal.returns-clause-gone
returns-clause-gone c =
    let v = c.args.self.now.world in
    let free = subst (λ o. IfSome o (IsFree v c.args.window c.args.number)) c.in-Some.is c.pick.ensures.some in
    gone_one c.args.self.now _ c.args.window c.args.number c.in-Some.from free
    (c.in_ok-deliver.ensures.done (free_legal v c.args.window c.args.number c.in-Some.from free))
    c.in_ok-push.ensures.items
