use Rattle.std.proofs.Common.{◌≡◌, ◌++◌, drop}
use Rattle.pm_core.specs.Links.{links_from}
use Rattle.pm_core.proofs.plan_links.add_from.Given as goal

abbrev pub invariant-loop-sender : goal.invariant-loop-sender
invariant-loop-sender l =
    l.links ++ links_from l.to (drop l.sender-index l.from) ≡ l.initial.links ++ links_from l.to l.from
