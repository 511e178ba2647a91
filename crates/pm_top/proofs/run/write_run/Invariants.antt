use Rattle.std.proofs.Common.{◌≡◌, ◌≤◌, ◌-◌}
use Rattle.pm_model.specs.Runs.{rest}
use Rattle.pm_top.proofs.Written.{IsSoFar}
use Rattle.pm_top.proofs.run.write_run.Given as goal

abbrev pub invariant-steps : goal.invariant-steps
invariant-steps g l = record {
  plan : l.seq.plan ≡ l.plan;
  so_far : IsSoFar l.plan (rest l.plan l.seq.state) (g.K.Sink.holds l.fn.out) (g.K.Sink.holds l.out) l.steps;
  most : l.steps ≤ l.budget;
  faults : g.K.Sink.faults l.fn.out ≤ g.K.Sink.faults l.out;
  stalls : g.K.Sink.stalls l.fn.out ≤ g.K.Sink.stalls l.out;
}

abbrev pub decreases-steps : goal.decreases-steps
decreases-steps g l = l.budget - l.steps
