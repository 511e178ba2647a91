use Rattle.std.proofs.Common.{◌≡◌, ◌≤◌, take, length}
use Rattle.pm_saved.specs.Inner.{steps_of}
use Rattle.pm_saved.specs.Steps.{regs_after}
use Rattle.pm_saved.proofs.look.last_regs.Given as goal

abbrev pub invariant-loop-left : goal.invariant-loop-left
invariant-loop-left l = (l.left ≤ l.n) × (regs_after l.base (steps_of (take l.left l.steps.items))
    ≡ regs_after l.base (steps_of (take l.n l.steps.items)))

abbrev pub decreases-loop-left : goal.decreases-loop-left
decreases-loop-left l = l.left
