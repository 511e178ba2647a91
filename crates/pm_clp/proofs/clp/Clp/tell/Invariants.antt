use Rattle.std.proofs.Common.{◌≡◌, drop}
use Rattle.pm_clp.specs.Clps.{tell}
use Rattle.pm_queries.specs.Queries.{HasGrown}
use Rattle.pm_clp.specs.Views.{Leads, Stays, others}
use Rattle.pm_clp.proofs.clp.Clp.tell.Given as goal

abbrev pub invariant-loop-at : goal.invariant-loop-at
invariant-loop-at l = record {
  hub : l.self.hub ≡ l.fn.self.hub;
  stays : Stays l.fn.self l.self;
  grown : HasGrown l.fn.out l.out;
  leads : Leads l.self l.out (tell l.fn.self.hub l.class l.from l.until l.window
      (others l.skip (drop l.at l.fn.self.hub.ports)))
      l.fn.self l.fn.out (tell l.fn.self.hub l.class l.from l.until l.window (others l.skip l.fn.self.hub.ports));
}
