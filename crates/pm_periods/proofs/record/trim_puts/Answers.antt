use Rattle.std.proofs.Common.{ap, ◌∙◌}
use Rattle.pm_periods.specs.Laid.{trimmed_withdrawal}
use Rattle.pm_periods.proofs.Forgetting.{trimmed_as}
use Rattle.pm_periods.proofs.Ordered.{written_before, written_on}
use Rattle.pm_periods.proofs.record.trim_puts.Goals as goal

pub loop-w-preserved : goal.loop-w-preserved
loop-w-preserved c =
    let f = trimmed_withdrawal c.args.line in
    written_on f c.args.withdrawals.now c.loop-w.withdrawals c.loop-w.w-index _ c.loop-w-test.true c.loop-w.invariant _
    (trimmed_as c.args.line _ c.kept_put-w.result c.kept_put-w.ensures ∙ ap f (written_before f c.args.withdrawals.now c.loop-w.withdrawals c.loop-w.w-index _ c.loop-w-test.true c.loop-w.invariant))
