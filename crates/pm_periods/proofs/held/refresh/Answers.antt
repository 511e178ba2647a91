use Rattle.std.proofs.Common.{ap, ◌∙◌}
use Rattle.pm_periods.specs.Records.{fresh_read}
use Rattle.pm_periods.proofs.Ordered.{written_before, written_on}
use Rattle.pm_periods.proofs.held.refresh.Goals as goal

pub loop-q-preserved : goal.loop-q-preserved
loop-q-preserved c =
    let fresh = fresh_read (λ _. c.args.value) in
    written_on fresh c.args.reads.now c.loop-q.reads c.loop-q.q-index _ c.loop-q-test.true c.loop-q.invariant c.refreshed.result
    (c.refreshed.ensures ∙ ap fresh (written_before fresh c.args.reads.now c.loop-q.reads c.loop-q.q-index _ c.loop-q-test.true c.loop-q.invariant))
