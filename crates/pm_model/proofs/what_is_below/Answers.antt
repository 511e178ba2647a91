use Rattle.pm_model.proofs.Below.{run-cut}
use Rattle.pm_model.proofs.what_is_below.Goals as goal

pub returns : goal.returns
returns c = run-cut c.args.plan.now c.args.line c.requires
