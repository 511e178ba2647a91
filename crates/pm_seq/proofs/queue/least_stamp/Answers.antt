use Rattle.std.proofs.Common.{sym, arith}
use Rattle.pm_seq.proofs.QueueLaws.{least-empty, least-first}
use Rattle.pm_seq.proofs.queue.least_stamp.Goals as goal

pub returns-in-Some : goal.returns-in-Some
returns-in-Some c =
    sym (least-first c.args.agents.now c.args.due.now c.in-Some.stamp.now c.requires c.in-Some.ensures.member c.in-Some.ensures.least)

pub returns-in-None : goal.returns-in-None
returns-in-None c = sym (least-empty c.args.agents.now c.args.due.now c.requires (grind arith))
