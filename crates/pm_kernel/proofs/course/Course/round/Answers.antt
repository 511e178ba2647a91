use Rattle.std.proofs.Common.{◌+◌, ◌∙◌, arith, refl}
use Rattle.pm_kernel.proofs.Going.{gone_on, same_count_on}
use Rattle.pm_kernel.proofs.course.Course.round.Goals as goal

pub loop-made-preserved : goal.loop-made-preserved
loop-made-preserved c =
    let b = c.loop-made.self in
    record {
      gone = gone_on c.args.self.now b c.turn.new.self c.args.window c.loop-made.made c.in_ok-made.field-0 _
          c.loop-made.invariant.gone c.in_ok-made.ensures.gone refl;
      most = let a = c.loop-made-test.true in let e = c.in_ok-made.ensures.one in omega (arith, a, e);
      count = same_count_on c.args.self.now b c.turn.new.self c.loop-made.invariant.count c.turn.ensures.count;
    }
