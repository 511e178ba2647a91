use Rattle.pm_saved.proofs.HitLemmas.{answers-all}
use Rattle.pm_saved.proofs.hits.answer_on.Goals as goal

pub returns : goal.returns
returns c =
    answers-all c.len.result c.loop-sense.sense-index c.args.senses.now c.from_place-others.result.now c.args.all.now
    c.loop-sense.all c.len.ensures c.from_place-others.ensures c.loop-sense-test.false c.loop-sense.invariant
