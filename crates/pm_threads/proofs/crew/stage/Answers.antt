use Rattle.pm_threads.proofs.Closing.{stage_is}
use Rattle.pm_threads.proofs.crew.stage.Goals as goal

pub returns-clause-done : goal.returns-clause-done
returns-clause-done g c =
    stage_is c.args.plan.now c.args.window c.in_ok-made.made c.in_ok-entries.entries c.args.journal.now.items
    c.epoch.new.journal.items c.close.new.journal.items c.in_ok-made.ensures.went c.in_ok-entries.ensures.closed
