use Rattle.std.proofs.Common.{◌≡◌, map}
use Rattle.std.specs.List.{range_with_len}
use Rattle.pm_plan.specs.Plans.{parents}
use Rattle.pm_plan.specs.Trees.{path_len}
use Rattle.pm_place.proofs.distances.distances_to.Given as goal

abbrev pub invariant-loop-home : goal.invariant-loop-home
invariant-loop-home l = l.row ≡ map (λ home. path_len (parents l.plan.clps) home l.clp) (range_with_len 0 l.home)
