use Rattle.pm_workers.specs.Seats.{SameIdle}
use Rattle.pm_workers.proofs.seats.go_round.Given as goal

abbrev pub invariant-loop-k : goal.invariant-loop-k
invariant-loop-k g l = SameIdle l.turns l.fn.seat l.seat
