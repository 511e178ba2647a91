use Rattle.pm_kernel.specs.Courses.{IsUntouched}
use Rattle.pm_kernel.proofs.course.Course.rouse.Given as goal

abbrev pub invariant-loop : goal.invariant-loop
invariant-loop l = IsUntouched l.fn.self l.self
