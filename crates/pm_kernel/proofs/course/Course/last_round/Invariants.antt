use Rattle.std.proofs.Common.{◌≡◌, ◌≤◌, ◌<◌}
use Rattle.pm_kernel.specs.Courses.{AreHeld, SameCount, WentOn}
use Rattle.pm_kernel.proofs.course.Course.last_round.Given as goal

abbrev pub invariant-loop-number : goal.invariant-loop-number
invariant-loop-number l = record {
  gone : WentOn l.window l.made l.fn.self l.self;
  most : l.made ≤ l.left;
  held : l.made ≡ 0 → 0 < l.left → AreHeld l.window l.number l.self;
  count : SameCount l.fn.self l.self;
}
