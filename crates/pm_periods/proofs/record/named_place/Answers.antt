use Rattle.std.proofs.Common.{sym, ◌∙◌}
use Rattle.pm_periods.specs.Laid.{withdrawal_key}
use Rattle.pm_periods.proofs.Searches.{no-place}
use Rattle.pm_periods.proofs.record.named_place.Goals as goal

pub returns-in-None : goal.returns-in-None
returns-in-None c = no-place withdrawal_key c.args.num c.args.withdrawals.now (sym c.requires.known
    ∙ sym c.in-None.ensures.value)
