use Rattle.pm_workers.specs.Seats.{SameIdle}
use Rattle.pm_workers.proofs.seats.work.Given as goal

abbrev pub invariant-loop : goal.invariant-loop
invariant-loop g l = SameIdle l.turns l.fn.seat l.seat
