use Rattle.std.proofs.Common.{◌≡◌, ◌++◌, drop}
use Rattle.pm_sim.specs.Worlds.{to_agents}
use Rattle.pm_core.proofs.tree.to_agents.Given as goal

abbrev pub invariant-loop-agent : goal.invariant-loop-agent
invariant-loop-agent l =
    l.found ++ to_agents l.plan l.clp l.agent (drop l.agent l.row-items) ≡ to_agents l.plan l.clp 0 l.row-items
