use Rattle.std.proofs.Common.{◌≡◌, ◌++◌, drop}
use Rattle.pm_clp.specs.Kept.{first_each}
use Rattle.pm_clp.proofs.records.first_slots.Given as goal

abbrev pub invariant-loop-v : goal.invariant-loop-v
invariant-loop-v l = l.each.items ++ first_each l.v (drop l.v l.ways) (drop l.v l.values) ≡ first_each 0 l.ways l.values
