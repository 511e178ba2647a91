use Rattle.std.proofs.Common.{◌≡◌, [], replicate}
use Rattle.pm_ends.proofs.wiring.no_ends.Given as goal

abbrev pub invariant-loop : goal.invariant-loop
invariant-loop l = (l.inns.items ≡ replicate l.counter []) × (l.outs.items ≡ replicate l.counter [])
