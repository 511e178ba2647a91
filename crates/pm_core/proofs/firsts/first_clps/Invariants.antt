use Rattle.std.proofs.Common.{◌≡◌, ◌++◌, ◌-◌}
use Rattle.pm_sim.specs.Worlds.{clps_of}
use Rattle.pm_core.specs.Firsts.{first_clps}
use Rattle.pm_core.proofs.firsts.first_clps.Given as goal

abbrev pub invariant-loop-clp : goal.invariant-loop-clp
invariant-loop-clp l =
    l.all.items ++ first_clps l.plan l.clp (clps_of l.plan - l.clp) ≡ first_clps l.plan 0 (clps_of l.plan)
