use Rattle.pm_seq.proofs.QueueLaws.{queue-empty, queue-more}
use Rattle.pm_seq.proofs.queue.queue_of.Goals as goal

pub loop-number-init : goal.loop-number-init
loop-number-init c = queue-empty c.new-due.result c.new-due.ensures.len

pub loop-number-preserved : goal.loop-number-preserved
loop-number-preserved c =
    queue-more c.args.agents.now c.loop-number.due c.enter.new.due c.loop-number.number c.index-agents-number.result c.loop-number.invariant
    c.loop-number-test.true c.index-agents-number.is c.in_ok-enter.ensures.ok
