use Rattle.std.proofs.Common.{arith}
use Rattle.pm_io.proofs.Known.{appends-piece}
use Rattle.pm_io.proofs.sink.write_whole.Goals as goal

pub loop-done-preserved : goal.loop-done-preserved
loop-done-preserved g c = record {
  bound = grind (arith, c.in_ok-count.ensures.bound);
  bytes = appends-piece _ _ _ _ _ _ c.loop-done.invariant.bytes c.in_ok-count.ensures.bytes;
  start = λ e. grind (arith, e, c.if-count-eq0.false);
  faults = omega (arith, c.loop-done.invariant.faults, c.in_ok-count.ensures.cause.later);
  stalls = omega (arith, c.loop-done.invariant.stalls, c.in_ok-count.ensures.stall.later);
}
