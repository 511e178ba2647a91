use Rattle.std.proofs.Common.{◌≡◌}
use Rattle.pm_kernel.proofs.stirred.Stirred.stir.Given as goal

abbrev pub invariant-loop-number : goal.invariant-loop-number
invariant-loop-number l = l.self.count ≡ l.fn.self.count
