use Rattle.pm_model.proofs.Starts.{starts-timely}
use Rattle.pm_model.proofs.a_run_starts_in_time.Goals as goal

pub returns : goal.returns
returns c = starts-timely c.args.plan.now c.requires
