use Rattle.std.proofs.Common.{◌∙◌, ap, sym}
use Rattle.pm_core.specs.Views.{has_link}
use Rattle.pm_core.proofs.Carries.{same_links}
use Rattle.pm_core.proofs.world.World.has_link.Goals as goal

pub returns : goal.returns
returns c =
    c.has_link.ensures ∙ (sym (same_links c.self.inside.processes.plan.now c.args.to c.args.from c.self.inside.mail)
    ∙ ap (λ v. has_link v c.args.to c.args.from) c.self.view_is)
