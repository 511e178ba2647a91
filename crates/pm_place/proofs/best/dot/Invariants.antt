use Rattle.std.proofs.Common.{◌≡◌, ◌+◌, drop}
use Rattle.pm_place.specs.Tallies.{dot}
use Rattle.pm_place.proofs.best.dot.Given as goal

abbrev pub invariant-loop-i : goal.invariant-loop-i
invariant-loop-i l = l.cost + dot (drop l.i l.counts) (drop l.i l.edges) ≡ dot l.counts l.edges
