use Rattle.std.proofs.Common.{◌≡◌, ℕ, ◌+◌, ◌-◌, ◌^◌, min, length, drop}
use Rattle.pm_periods.specs.Laid.{withdrawn_of}
use Rattle.pm_periods.proofs.record.withdrawals_kept.Given as goal

abbrev pub invariant-loop-w : goal.invariant-loop-w
invariant-loop-w l = (n : ℕ) × (l.kept ≡ min n (2 ^ 64 - 1)) × (n + (length (withdrawn_of (drop l.w-index l.withdrawals)) + length (drop l.w-index l.withdrawals)) ≡ length (withdrawn_of l.withdrawals) + length l.withdrawals)
