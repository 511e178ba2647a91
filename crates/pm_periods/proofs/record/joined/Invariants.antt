use Rattle.std.proofs.Common.{◌≡◌, ◌++◌, take, map}
use Rattle.pm_periods.specs.Records.{fresh_read}
use Rattle.pm_periods.proofs.record.joined.Given as goal

abbrev pub invariant-loop-q : goal.invariant-loop-q
invariant-loop-q l = l.reads.items ≡ l.first ++ map (fresh_read (λ _. l.value)) (take l.q-index l.second)
