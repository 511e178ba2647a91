use Rattle.std.proofs.Common.{◌≡◌, ◌++◌, ◌+◌, drop}
use Rattle.pm_core.specs.Links.{homed_at}
use Rattle.pm_core.proofs.plan_links.add_homed.Given as goal

abbrev pub invariant-loop-i : goal.invariant-loop-i
invariant-loop-i l =
    l.numbers ++ homed_at l.clp (l.first + l.i) (drop l.i l.agents)
    ≡ l.initial.numbers ++ homed_at l.clp l.first l.agents
