use Rattle.pm_model.proofs.Starts.{starts-timely}
use Rattle.pm_seq.proofs.seq.Seq.new.Goals as goal

pub invariant_of-result : goal.invariant_of-result
invariant_of-result c = record {
  limits = c.requires;
  timely = rw c.in_ok-state.ensures (starts-timely c.args.plan.now c.requires);
  queue = rw c.as_slice.ensures at c.in_ok-due.ensures;
}
