use Rattle.std.proofs.Common.{◌≡◌, ◌<◌, subst}
use Rattle.std.specs.Prelude.{IfOk}
use Rattle.pm_kernel.specs.Courses.{AreHeld}
use Rattle.pm_kernel.proofs.course.Course.epoch.Goals as goal

pub returns-clause-idle : goal.returns-clause-idle
returns-clause-idle c =
    let k = c.args.window in
    let quota = c.args.quota in
    subst (λ n. IfOk c.last_round.result (λ m. m ≡ 0 → 0 < quota → AreHeld k n c.last_round.new.self))
    c.rounds.ensures.count.all c.last_round.ensures.idle
