use Rattle.std.proofs.Common.{◌≡◌, ◌<◌, ◌≤◌, ℕ}
use Rattle.pm_place.specs.Tallies.{cost_at}
use Rattle.pm_place.proofs.best.best.Given as goal

abbrev pub invariant-loop-clp : goal.invariant-loop-clp
invariant-loop-clp l = record {
  there : l.best.at < l.clp;
  here : l.best.cost ≡ cost_at l.counts l.distances l.best.at;
  least : (c : ℕ) → c < l.clp → l.best.cost ≤ cost_at l.counts l.distances c;
  first : (c : ℕ) → c < l.best.at → l.best.cost < cost_at l.counts l.distances c;
}
