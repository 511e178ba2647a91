use Rattle.std.proofs.Common.{◌≡◌, take}
use Rattle.pm_step.specs.Expressions.{sum_over}
use Rattle.pm_step.proofs.expressions.sum_y.Given as goal

abbrev pub invariant-loop-h : goal.invariant-loop-h
invariant-loop-h l = l.sum ≡ sum_over (λ h. h.value.y) (take l.h-index l.hits)
