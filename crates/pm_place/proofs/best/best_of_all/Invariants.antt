use Rattle.std.proofs.Common.{◌*◌, ◌≤◌, take}
use Rattle.std.specs.Prelude.{◌^◌}
use Rattle.pm_place.specs.Bests.{HasBestOfEach}
use Rattle.pm_place.proofs.best.best_of_all.Given as goal

abbrev pub invariant-loop-counts : goal.invariant-loop-counts
invariant-loop-counts l = record {
  best : HasBestOfEach l.distances (take l.counts-index l.rows) l.placing;
  small : l.placing.total ≤ l.counts-index * 2 ^ 40;
}
