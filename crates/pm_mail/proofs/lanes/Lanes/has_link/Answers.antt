use Rattle.std.proofs.Common.{◌∙◌, ap, sym, is_some}
use Rattle.pm_mail.proofs.Places.{has-place}
use Rattle.pm_mail.proofs.lanes.Lanes.has_link.Goals as goal

pub returns : goal.returns
returns c = c.is_some.ensures ∙ (ap is_some c.place.ensures ∙ sym (has-place c.args.to c.args.from c.args.self.now))
