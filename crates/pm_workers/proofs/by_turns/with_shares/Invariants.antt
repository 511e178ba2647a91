use Rattle.std.proofs.Common.{◌≡◌, ◌+◌, ◌++◌, length, map}
use Rattle.std.specs.Vec.{vec_capacity, vec_len}
use Rattle.std.specs.Vec.Iter.{into_iter_items}
use Rattle.pm_workers.specs.Posts.{HaveShares}
use Rattle.pm_workers.proofs.by_turns.with_shares.Given as goal

abbrev pub invariant-loop-station : goal.invariant-loop-station
invariant-loop-station g l =
    (goal.iterator-loop-station g).can_next l.station-iterator
    × (goal.iterator-loop-station g).is_finite l.station-iterator
    × (map (λ p. p.station) l.posts.items ++ into_iter_items l.station-iterator ≡ l.fn.stations.items)
    × (vec_len l.posts + length (into_iter_items l.station-iterator) ≡ l.plan.count)
    × (vec_capacity l.posts ≡ l.plan.count)
    × HaveShares l.plan.quota l.plan.count l.posts.items
