use Rattle.std.proofs.Common.{◌∙◌, sym}
use Rattle.pm_mail.proofs.Closed.{closed}
use Rattle.pm_mail.proofs.index.leave.Goals as goal

pub returns-then-has_one : goal.returns-then-has_one
returns-then-has_one c =
    closed c.args.heads.now c.remove.new.self c.args.to c.args.head c.remove.ensures.updates.0
    (sym c.has_one.ensures ∙ c.if-has_one.true) c.requires
