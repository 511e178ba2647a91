use Rattle.std.proofs.Common.{◌≡◌, ◌-◌, length}
use Rattle.pm_model.specs.Runs.{deed}
use Rattle.pm_model.proofs.DeedLaws.{deed_after}
use Rattle.pm_seq.proofs.Turns.{scene}
use Rattle.pm_seq.proofs.turn.deed.Given as goal

abbrev pub invariant-asking : goal.invariant-asking
invariant-asking l =
    deed (scene l.row.program l.plan.layout.classes l.values l.stamp l.regs)
    ≡ deed_after (scene l.row.program l.plan.layout.classes l.values l.stamp l.regs) l.answers

abbrev pub decreases-asking : goal.decreases-asking
decreases-asking l = length l.row.program.senses - length l.answers
