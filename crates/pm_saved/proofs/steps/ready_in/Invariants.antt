use Rattle.std.proofs.Common.{◌≡◌, ◌+◌, drop, length}
use Rattle.pm_saved.specs.Inner.{steps_of}
use Rattle.pm_saved.specs.Steps.{hand_out}
use Rattle.pm_saved.proofs.steps.ready_in.Given as goal

abbrev pub invariant-loop-at : goal.invariant-loop-at
invariant-loop-at l = l.at + length (hand_out l.line (steps_of (drop l.at l.steps.items)))
    ≡ length (hand_out l.line (steps_of l.steps.items))
