use Rattle.std.proofs.Common.{take}
use Rattle.pm_seq.specs.Queues.{IsQueue}
use Rattle.pm_seq.proofs.queue.queue_of.Given as goal

abbrev pub invariant-loop-number : goal.invariant-loop-number
invariant-loop-number l = IsQueue (take l.number l.agents) l.due
