use Rattle.std.proofs.Common.{ap, ◌∙◌}
use Rattle.pm_periods.specs.HeldPeriods.{held_of}
use Rattle.pm_periods.specs.Records.{Record}
use Rattle.pm_periods.proofs.Helds.{held_is}
use Rattle.pm_periods.proofs.record.VarRecord.held.Goals as goal

pub returns : goal.returns
returns c = c.as_slice.ensures.value ∙ (held_is c.self.inside.periods.items c.self.inside.withdrawals.items c.self.invariant.sound ∙ ap (λ (z : Record). held_of z.parts) c.self.view_is)
