use Rattle.std.proofs.Common.{◌≡◌, drop}
use Rattle.pm_queries.specs.Queries.{has}
use Rattle.pm_clp.proofs.takes.is_one_of.Given as goal

abbrev pub invariant-loop-p : goal.invariant-loop-p
invariant-loop-p l = has l.process (drop l.p-index l.processes) ≡ has l.process l.processes
