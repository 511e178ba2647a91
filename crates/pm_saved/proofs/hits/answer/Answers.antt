use Rattle.pm_saved.proofs.HitLemmas.{answer-more}
use Rattle.pm_saved.proofs.hits.answer.Goals as goal

pub loop-k-preserved : goal.loop-k-preserved
loop-k-preserved c = answer-more c.args.hits.now c.loop-k.k-index _ c.loop-k.all _ c.loop-k-test.true
    c.loop-k.invariant c.in_ok-show.ensures
