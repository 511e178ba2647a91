use Rattle.std.proofs.Common.{◌≡◌, ◌++◌, ◌-◌}
use Rattle.pm_sim.specs.Worlds.{clps_of}
use Rattle.pm_core.specs.Links.{links_to_clps}
use Rattle.pm_core.proofs.plan_links.links_to_clps.Given as goal

abbrev pub invariant-loop-clp : goal.invariant-loop-clp
invariant-loop-clp l =
    l.found ++ links_to_clps l.plan l.clp (clps_of l.plan - l.clp) ≡ links_to_clps l.plan 0 (clps_of l.plan)
