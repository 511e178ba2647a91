use Rattle.std.proofs.Common.{◌≡◌, ◌≤◌, ◌-◌}
use Rattle.pm_kernel.specs.Courses.{SameCount, WentOn}
use Rattle.pm_kernel.proofs.course.Course.rounds.Given as goal

abbrev pub invariant-loop-made : goal.invariant-loop-made
invariant-loop-made l = record {
  gone : WentOn l.window l.made l.fn.self l.self;
  most : l.made ≤ l.quota;
  count : SameCount l.fn.self l.self;
}

abbrev pub decreases-loop-made : goal.decreases-loop-made
decreases-loop-made l = l.quota - l.made
