use Rattle.std.proofs.Common.{◌≡◌, ◌++◌, map, take}
use Rattle.pm_queries.specs.Queries.{HasGrown}
use Rattle.pm_clp.specs.Views.{asked_at}
use Rattle.pm_clp.proofs.sends.forward_each.Given as goal

abbrev pub invariant-loop-port : goal.invariant-loop-port
invariant-loop-port l = record {
  sent : l.out ≡ l.fn.out ++ map (asked_at l.row) (take l.port-index l.ports);
  grown : HasGrown l.fn.out l.out;
}
