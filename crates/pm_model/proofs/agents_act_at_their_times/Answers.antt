use Rattle.pm_model.proofs.Below.{run-of-plan}
use Rattle.pm_model.proofs.Rises.{own-time}
use Rattle.pm_model.proofs.agents_act_at_their_times.Goals as goal

pub returns : goal.returns
returns c = record { turn = own-time c.args.plan.now; run = run-of-plan c.args.plan.now c.requires }
