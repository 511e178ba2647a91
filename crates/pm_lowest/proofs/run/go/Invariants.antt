use Rattle.std.proofs.Common.{◌≡◌, ◌≤◌, ◌-◌, None}
use Rattle.pm_lowest.specs.Courses.{HasWritten, IsUnderway}
use Rattle.pm_lowest.proofs.run.go.Given as goal

abbrev pub invariant-steps : goal.invariant-steps
invariant-steps g l = record {
  underway : IsUnderway l.plan l.course.budget l.course;
  budget : l.course.budget ≡ l.fn.course.budget;
  written : HasWritten l.plan l.fn.counts l.counts (g.K.Sink.holds l.fn.out) (g.K.Sink.holds l.out)
      l.fn.course.journal.items l.course.journal.items None;
  faults : g.K.Sink.faults l.fn.out ≤ g.K.Sink.faults l.out;
  stalls : g.K.Sink.stalls l.fn.out ≤ g.K.Sink.stalls l.out;
}

abbrev pub decreases-steps : goal.decreases-steps
decreases-steps g l = l.course.budget - l.course.world.made
