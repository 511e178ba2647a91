use Rattle.std.proofs.Common.{◌≡◌, drop}
use Rattle.pm_clp.specs.Clps.{tell_periods}
use Rattle.pm_queries.specs.Queries.{HasGrown}
use Rattle.pm_clp.specs.Views.{Leads, Stays}
use Rattle.pm_clp.proofs.clp.Clp.tell_periods.Given as goal

abbrev pub invariant-loop-period : goal.invariant-loop-period
invariant-loop-period l = record {
  hub : l.self.hub ≡ l.fn.self.hub;
  stays : Stays l.fn.self l.self;
  grown : HasGrown l.fn.out l.out;
  leads : Leads l.self l.out (tell_periods l.fn.self.hub l.class (drop l.period-index l.periods))
      l.fn.self l.fn.out (tell_periods l.fn.self.hub l.class l.periods);
}
