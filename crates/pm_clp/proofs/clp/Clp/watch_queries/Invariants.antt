use Rattle.std.proofs.Common.{◌≡◌, drop}
use Rattle.pm_queries.specs.Queries.{HasGrown, class_queries}
use Rattle.pm_clp.specs.Views.{Leads, Stays, watch_each}
use Rattle.pm_clp.proofs.clp.Clp.watch_queries.Given as goal

abbrev pub invariant-loop-at : goal.invariant-loop-at
invariant-loop-at l = record {
  hub : l.self.hub ≡ l.fn.self.hub;
  stays : Stays l.fn.self l.self;
  grown : HasGrown l.fn.out l.out;
  queries : l.self.clp.queries ≡ l.fn.self.clp.queries;
  leads : Leads l.self l.out (watch_each l.fn.self.hub l.var (drop l.at (class_queries l.class l.fn.self.clp.queries)))
      l.fn.self l.fn.out (watch_each l.fn.self.hub l.var (class_queries l.class l.fn.self.clp.queries));
}
