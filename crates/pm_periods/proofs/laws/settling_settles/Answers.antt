use Rattle.pm_periods.specs.Records.{settled}
use Rattle.pm_periods.proofs.Settling.{settled-same, settled-settled}
use Rattle.pm_periods.proofs.laws.settling_settles.Goals as goal

pub returns-clause-facts : goal.returns-clause-facts
returns-clause-facts c = settled-settled c.args.parts.now

pub returns-clause-again : goal.returns-clause-again
returns-clause-again c = settled-same (settled c.args.parts.now) (settled-settled c.args.parts.now)
