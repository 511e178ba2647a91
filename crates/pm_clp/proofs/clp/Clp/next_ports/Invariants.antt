use Rattle.std.proofs.Common.{◌≡◌, ◌++◌, drop, filter}
use Rattle.pm_clp.specs.Clps.{sent_on}
use Rattle.pm_clp.proofs.clp.Clp.next_ports.Given as goal

abbrev pub invariant-loop-at : goal.invariant-loop-at
invariant-loop-at l =
    l.ports ++ filter (sent_on l.self.hub l.self.clp.bound l.from l.class l.stamp l.window) (drop l.at l.self.hub.ports)
    ≡ filter (sent_on l.self.hub l.self.clp.bound l.from l.class l.stamp l.window) l.self.hub.ports
