use Rattle.std.proofs.Common.{◌≡◌, ◌+◌, ◌∙◌, arith, refl, subst}
use Rattle.pm_kernel.proofs.Going.{gone_on, same_count_on, turn_on}
use Rattle.pm_kernel.specs.Courses.{WentOn}
use Rattle.pm_kernel.proofs.course.Course.last_round.Goals as goal

pub loop-number-preserved : goal.loop-number-preserved
loop-number-preserved c =
    let k = c.args.window in
    let b = c.loop-number.self in
    let d = c.in_ok-made.field-0 in
    record {
      gone = gone_on c.args.self.now b c.turn.new.self k c.loop-number.made d _
          c.loop-number.invariant.gone c.in_ok-made.ensures.gone refl;
      most = let a = c.loop-number.invariant.most in let e = c.in_ok-made.ensures.one in let ne = c.if-made-left.false in
          omega (arith, a, e, ne);
      held = λ z pos.
          let none : d ≡ 0 = omega (arith, z) in
          let before = c.loop-number.invariant.held (omega (arith, z)) pos in
          turn_on b c.turn.new.self k c.loop-number.number
          (subst (λ n. WentOn k n b c.turn.new.self) none c.in_ok-made.ensures.gone) before
          (c.in_ok-made.ensures.held none);
      count = same_count_on c.args.self.now b c.turn.new.self c.loop-number.invariant.count c.turn.ensures.count;
    }
