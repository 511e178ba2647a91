use Rattle.std.proofs.Common.{◌≡◌, ◌++◌, take, drop, map}
use Rattle.pm_periods.specs.Records.{fresh_read}
use Rattle.pm_periods.proofs.held.refresh.Given as goal

abbrev pub invariant-loop-q : goal.invariant-loop-q
invariant-loop-q l = l.reads ≡ map (fresh_read (λ _. l.value)) (take l.q-index l.fn.reads) ++ drop l.q-index l.fn.reads
