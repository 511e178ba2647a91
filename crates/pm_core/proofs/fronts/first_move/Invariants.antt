use Rattle.std.proofs.Common.{ℕ, ◌<◌, ◌≡◌, None}
use Rattle.pm_core.specs.Leasts.{move_at}
use Rattle.pm_core.proofs.fronts.first_move.Given as goal

abbrev pub invariant-loop-from : goal.invariant-loop-from
invariant-loop-from l = (g : ℕ) → g < l.from → move_at l.mail l.to l.stamp g ≡ None
