use Rattle.std.proofs.Common.{◌≡◌, ◌+◌, ◌≤◌, ◌++◌, length, map, Some}
use Rattle.std.specs.Vec.{vec_capacity, vec_len}
use Rattle.std.specs.Vec.Iter.{into_iter_items}
use Rattle.pm_turn.proofs.slots.filled.Given as goal

abbrev pub invariant-loop-x : goal.invariant-loop-x
invariant-loop-x g l =
    (goal.iterator-loop-x g).can_next l.x-iterator × (goal.iterator-loop-x g).is_finite l.x-iterator
    × (l.slots.items ++ map (λ x. Some x) (into_iter_items l.x-iterator) ≡ map (λ x. Some x) l.fn.values.items)
    × (vec_len l.slots + length (into_iter_items l.x-iterator) ≤ vec_capacity l.slots)
