use Rattle.std.proofs.Common.{◌≡◌, ◌++◌, map, take}
use Rattle.pm_queries.specs.Queries.{HasGrown}
use Rattle.pm_clp.specs.Views.{give_to}
use Rattle.pm_clp.proofs.clp.send_gives.Given as goal

abbrev pub invariant-loop-row : goal.invariant-loop-row
invariant-loop-row l = record {
  sent : l.out ≡ l.fn.out ++ map (give_to l.to_agents) (take l.row-index l.gives);
  grown : HasGrown l.fn.out l.out;
}
