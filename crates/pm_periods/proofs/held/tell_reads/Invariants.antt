use Rattle.std.proofs.Common.{◌≡◌, ◌++◌, take}
use Rattle.pm_periods.specs.Records.{changed_of}
use Rattle.pm_periods.proofs.held.tell_reads.Given as goal

abbrev pub invariant-loop-q : goal.invariant-loop-q
invariant-loop-q l = l.gives.items ≡ l.fn.gives.items ++ changed_of l.var (λ _. l.value) (take l.q-index l.reads)
