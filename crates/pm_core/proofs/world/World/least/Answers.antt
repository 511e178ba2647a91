use Rattle.std.proofs.Common.{◌∙◌, ap, sym}
use Rattle.pm_base.specs.Stamps.{least_line_of}
use Rattle.pm_sim.specs.Worlds.{least_line}
use Rattle.pm_core.specs.Views.{WorldView}
use Rattle.pm_core.proofs.Carries.{stamps_are}
use Rattle.pm_core.proofs.world.World.least.Goals as goal

pub returns : goal.returns
returns c =
    c.least.ensures ∙ (sym (ap least_line_of (stamps_are c.self.inside.processes.plan.now c.self.inside.mail))
    ∙ ap (λ (v : WorldView). least_line v.world) c.self.view_is)
