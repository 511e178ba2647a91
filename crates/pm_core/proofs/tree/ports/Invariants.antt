use Rattle.std.proofs.Common.{◌≡◌, ◌++◌, ◌-◌, length}
use Rattle.pm_plan.specs.Plans.{parents}
use Rattle.pm_sim.specs.Worlds.{edges, ports}
use Rattle.pm_core.proofs.tree.ports.Given as goal

abbrev pub invariant-loop-other : goal.invariant-loop-other
invariant-loop-other l =
    l.found ++ edges (parents l.plan.clps) l.clp l.other (length l.plan.clps - l.other) ≡ ports l.plan l.clp
