use Rattle.std.proofs.Common.{drop}
use Rattle.pm_saved.specs.Inner.{steps_of}
use Rattle.pm_saved.specs.Steps.{withdrawn}
use Rattle.pm_saved.proofs.Cutting.{IsSending}
use Rattle.pm_saved.proofs.look.withdraw_from.Given as goal

abbrev pub invariant-loop-at : goal.invariant-loop-at
invariant-loop-at l = IsSending (withdrawn (steps_of (drop l.from l.steps.items)))
    (withdrawn (steps_of (drop l.at l.steps.items))) l.fn.out l.out
