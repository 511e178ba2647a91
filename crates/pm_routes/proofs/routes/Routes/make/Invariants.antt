use Rattle.std.proofs.Common.{◌≡◌, take, replicate}
use Rattle.pm_routes.specs.Routings.{no_counts}
use Rattle.pm_routes.proofs.routes.Routes.make.Given as goal

abbrev pub invariant-loop-way : goal.invariant-loop-way
invariant-loop-way l = record {
  ways : l.copy ≡ take l.way-index l.way-items;
  counts : l.counts.items ≡ replicate l.way-index (no_counts l.ports);
}
