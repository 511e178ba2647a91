use Rattle.pm_model.proofs.Below.{run-rises, run-short}
use Rattle.pm_model.proofs.stamps_rise.Goals as goal

pub returns : goal.returns
returns c = record { order = run-rises c.args.plan.now c.requires; short = run-short c.args.plan.now c.requires }
