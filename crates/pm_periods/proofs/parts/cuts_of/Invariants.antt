use Rattle.std.proofs.Common.{◌≡◌, take, map}
use Rattle.pm_periods.specs.Laid.{cut_of}
use Rattle.pm_periods.proofs.parts.cuts_of.Given as goal

abbrev pub invariant-loop-w : goal.invariant-loop-w
invariant-loop-w l = l.cuts.items ≡ map cut_of (take l.w-index l.withdrawals)
