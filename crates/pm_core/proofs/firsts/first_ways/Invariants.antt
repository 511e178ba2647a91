use Rattle.std.proofs.Common.{◌≡◌, map, take}
use Rattle.pm_sim.specs.Worlds.{first_way}
use Rattle.pm_core.proofs.firsts.first_ways.Given as goal

abbrev pub invariant-loop-row : goal.invariant-loop-row
invariant-loop-row l = l.ways ≡ map (first_way l.plan l.clp) (take l.row-index l.row-items)
