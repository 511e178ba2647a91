use Rattle.std.proofs.Common.{◌≡◌, ◌++◌, take, drop, map}
use Rattle.pm_periods.specs.Laid.{trimmed_withdrawal}
use Rattle.pm_periods.proofs.record.trim_puts.Given as goal

abbrev pub invariant-loop-w : goal.invariant-loop-w
invariant-loop-w l = l.withdrawals ≡ map (trimmed_withdrawal l.line) (take l.w-index l.fn.withdrawals) ++ drop l.w-index l.fn.withdrawals
