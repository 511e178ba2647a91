use Rattle.std.proofs.Common.{◌∙◌, ap}
use Rattle.pm_mail.specs.Inner.{place_of}
use Rattle.pm_mail.proofs.lanes.Lanes.place.Goals as goal

pub returns : goal.returns
returns c = c.copied.ensures ∙ (c.get.ensures.value ∙ (c.self.invariant (record { to = c.args.to; from = c.args.from })
    ∙ ap (place_of c.args.to c.args.from) c.self.view_is))
