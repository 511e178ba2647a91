use Rattle.std.proofs.Common.{◌≡◌, map, take}
use Rattle.std.specs.Vec.{vec_capacity}
use Rattle.pm_history.specs.Merged.{deliver}
use Rattle.pm_history.proofs.merging.deliveries.Given as goal

abbrev pub invariant-loop-k : goal.invariant-loop-k
invariant-loop-k l = (l.journal.items ≡ map deliver (take l.k l.tagged))
    × (vec_capacity l.journal ≡ vec_capacity l.initial.journal)
