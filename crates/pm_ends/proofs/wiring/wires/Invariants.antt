use Rattle.std.proofs.Common.{take}
use Rattle.pm_ends.specs.Wires.{AreWires}
use Rattle.pm_ends.proofs.wiring.wires.Given as goal

abbrev pub invariant-loop-link : goal.invariant-loop-link
invariant-loop-link l = AreWires (take l.link-index l.links) l.count l.inns.items l.outs.items
