use Rattle.pm_top.proofs.Sums.{sum-step}
use Rattle.pm_top.proofs.demo.sum_of.Goals as goal

pub loop-byte-preserved : goal.loop-byte-preserved
loop-byte-preserved c =
    sum-step c.args.text.now c.loop-byte.byte-index _ _ _ c.loop-byte-test.true c.loop-byte.invariant c.next_sum-sum.ensures
