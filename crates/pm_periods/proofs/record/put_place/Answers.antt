use Rattle.std.proofs.Common.{◌≡◌, false, length, sym, ◌∙◌}
use Rattle.pm_periods.specs.Laid.{is_of}
use Rattle.pm_periods.specs.declared.held.Held.{Held}
use Rattle.pm_periods.proofs.Receipts.{each_take}
use Rattle.pm_periods.proofs.Searches.{no-put}
use Rattle.pm_periods.proofs.record.put_place.Goals as goal

pub returns-in-None-clause-others : goal.returns-in-None-clause-others
returns-in-None-clause-others c =
    each_take (λ (h : Held). is_of c.args.num h.put ≡ false) (length c.args.periods.now) c.args.periods.now
    (no-put c.args.num c.args.periods.now (sym c.requires.known ∙ sym c.in-None.ensures.value))
