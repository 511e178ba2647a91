use Rattle.std.proofs.Common.{◌≡◌, ◌+◌, ◌-◌, ◌≤◌}
use Rattle.pm_clp.specs.Clps.{watch_all}
use Rattle.pm_queries.specs.Queries.{HasGrown}
use Rattle.pm_clp.specs.Views.{Leads, Stays}
use Rattle.pm_clp.proofs.clp.Clp.watch_class.Given as goal

abbrev pub invariant-loop-at : goal.invariant-loop-at
invariant-loop-at l = record {
  hub : l.self.hub ≡ l.fn.self.hub;
  stays : Stays l.fn.self l.self;
  grown : HasGrown l.fn.out l.out;
  within : l.at ≤ l.end;
  leads : Leads l.self l.out (watch_all l.fn.self.hub l.num l.stamp l.window l.at (l.end - l.at))
      l.fn.self l.fn.out (watch_all l.fn.self.hub l.num l.stamp l.window l.fn.row.first l.fn.row.count);
}

abbrev pub decreases-loop-at : goal.decreases-loop-at
decreases-loop-at l = l.end - l.at
