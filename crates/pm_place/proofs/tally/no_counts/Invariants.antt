use Rattle.std.proofs.Common.{◌≡◌, length, replicate}
use Rattle.pm_place.proofs.tally.no_counts.Given as goal

abbrev pub invariant-loop-var : goal.invariant-loop-var
invariant-loop-var l = l.rows.items ≡ replicate l._var (replicate (length l.plan.clps) 0)
