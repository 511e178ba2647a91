use Rattle.std.proofs.Common.{◌≡◌, drop}
use Rattle.pm_queries.specs.Queries.{has}
use Rattle.pm_queries.proofs.ports.has.Given as goal

abbrev pub invariant-loop-p : goal.invariant-loop-p
invariant-loop-p l = has l.port (drop l.p-index l.p-items) ≡ has l.port l.ports
