use Rattle.std.proofs.Common.{◌≡◌, ◌+◌, ◌≤◌, ◌++◌, length, map}
use Rattle.std.specs.Vec.{vec_capacity, vec_len}
use Rattle.std.specs.Vec.Iter.{into_iter_items}
use Rattle.pm_workers.proofs.by_turns.without_shares.Given as goal

abbrev pub invariant-loop-post : goal.invariant-loop-post
invariant-loop-post g l =
    (goal.iterator-loop-post g).can_next l.post-iterator × (goal.iterator-loop-post g).is_finite l.post-iterator
    × (l.stations.items ++ map (λ p. p.station) (into_iter_items l.post-iterator) ≡
    map (λ p. p.station) l.fn.posts.items)
    × (vec_len l.stations + length (into_iter_items l.post-iterator) ≤ vec_capacity l.stations)
