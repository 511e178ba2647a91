use Rattle.std.proofs.Common.{◌≡◌, take}
use Rattle.pm_step.specs.Expressions.{sum_over}
use Rattle.pm_step.proofs.expressions.sum_x.Given as goal

abbrev pub invariant-loop-h : goal.invariant-loop-h
invariant-loop-h l = l.sum ≡ sum_over (λ h. h.value.x) (take l.h-index l.hits)
