use Rattle.std.proofs.Common.{subst}
use Rattle.pm_periods.specs.Records.{IsSettled, Record}
use Rattle.pm_periods.proofs.Settling.{settled-same}
use Rattle.pm_periods.proofs.laws.records_are_settled.Goals as goal

pub returns-clause-facts : goal.returns-clause-facts
returns-clause-facts c = subst (λ (z : Record). IsSettled z.parts) c.one.view_is c.one.invariant.settled

pub returns-clause-same : goal.returns-clause-same
returns-clause-same c = settled-same c.args.one.now.parts (subst (λ (z : Record). IsSettled z.parts) c.one.view_is c.one.invariant.settled)
