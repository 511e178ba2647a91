use Rattle.std.proofs.Common.{◌+◌, ◌∙◌, arith, refl}
use Rattle.pm_kernel.proofs.Going.{gone_on, same_count_on}
use Rattle.pm_kernel.proofs.course.Course.rounds.Goals as goal

pub loop-made-preserved : goal.loop-made-preserved
loop-made-preserved c = record {
  gone = gone_on c.args.self.now c.loop-made.self c.round.new.self c.args.window c.loop-made.made c.in_ok-more.more _
      c.loop-made.invariant.gone c.in_ok-more.ensures.gone refl;
  most = let a = c.in_ok-more.ensures.most in let b = c.loop-made-test.true in omega (arith, a, b);
  count = same_count_on c.args.self.now c.loop-made.self c.round.new.self c.loop-made.invariant.count
      c.round.ensures.count;
}
