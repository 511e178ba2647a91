use Rattle.std.proofs.Common.{◌≡◌, ℕ, ◌+◌, ◌-◌, ◌^◌, min, length, drop}
use Rattle.pm_periods.specs.Laid.{puts_of, reads_of}
use Rattle.pm_periods.proofs.record.periods_kept.Given as goal

abbrev pub invariant-loop-h : goal.invariant-loop-h
invariant-loop-h l = (n : ℕ) × (l.kept ≡ min n (2 ^ 64 - 1)) × (n + (length (puts_of (drop l.h-index l.periods)) + length (reads_of (drop l.h-index l.periods))) ≡ length (puts_of l.periods) + length (reads_of l.periods))
