use Rattle.std.proofs.Common.{◌∙◌, sym}
use Rattle.pm_mail.specs.Inner.{place_of}
use Rattle.pm_mail.proofs.Places.{has-place, no-place}
use Rattle.pm_mail.proofs.lanes.Lanes.open.Goals as goal

pub append-requires : goal.append-requires
append-requires c =
    no-place (place_of c.args.to c.args.from c.args.self.now)
    (sym (has-place c.args.to c.args.from c.args.self.now) ∙ (sym c.has_link.ensures ∙ c.if-has_link.false))
