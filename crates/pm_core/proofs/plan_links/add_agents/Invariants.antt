use Rattle.std.proofs.Common.{◌≡◌, ◌++◌, ◌+◌, drop}
use Rattle.pm_core.specs.Links.{links_to_agents}
use Rattle.pm_core.proofs.plan_links.add_agents.Given as goal

abbrev pub invariant-loop-i : goal.invariant-loop-i
invariant-loop-i l =
    l.links ++ links_to_agents (l.first + l.i) (drop l.i l.agents)
    ≡ l.initial.links ++ links_to_agents l.first l.agents
