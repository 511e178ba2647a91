use Rattle.std.proofs.Common.{◌≡◌, map}
use Rattle.std.specs.List.{range_with_len}
use Rattle.pm_place.specs.Tallies.{distances_to}
use Rattle.pm_place.proofs.distances.distances.Given as goal

abbrev pub invariant-loop-clp : goal.invariant-loop-clp
invariant-loop-clp l = l.rows ≡ map (distances_to l.plan) (range_with_len 0 l.clp)
