use Rattle.std.proofs.Common.{refl, pos, ◌+◌}
use Rattle.pm_base.specs.declared.value.Change.TheVariants as change
use Rattle.pm_alp.proofs.Puttings.{putting-more}
use Rattle.pm_alp.proofs.state.send_puts.Goals as goal

pub loop-write-preserved : goal.loop-write-preserved
loop-write-preserved c =
    putting-more c.args.first c.args.stamp c.args.writes.now c.loop-write.write-index
    (record { var = 0; change = change.Set (record { x = pos 0; y = pos 0 }) }) c.loop-write.num
    (record { agent = c.loop-write.num.agent; seq = c.loop-write.num.seq + 1 }) c.loop-write.nums c.push.new.self
    c.args.out.now c.loop-write.out c.send_put.new.out
    c.loop-write.invariant c.loop-write-test.true refl refl c.in_ok-push.ensures.ok c.in_ok-send_put.ensures.ok
