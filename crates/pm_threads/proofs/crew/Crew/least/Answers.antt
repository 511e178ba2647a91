use Rattle.std.proofs.Common.{◌≡◌, ◌∙◌, ap, subst}
use Rattle.pm_cell.specs.Helds.{views}
use Rattle.pm_cell.specs.Stands.{IsLeastOf}
use Rattle.pm_kernel.specs.Engines.{RunView, world_of}
use Rattle.pm_sim.specs.Worlds.{least_line}
use Rattle.pm_threads.proofs.Closing.{least_at}
use Rattle.pm_threads.proofs.crew.Crew.least.Goals as goal

pub returns : goal.returns
returns g c =
    let s = c.self.inside in
    let well = ap (λ (v : RunView). v.spoilt) c.self.view_is in
    subst (λ (v : RunView). c.least.result ≡ least_line (world_of v)) c.self.view_is
    (least_at s.plan.now c.self.invariant.valid s.journal.items s.cells.items c.least.result
    (c.self.invariant.stays (well ∙ c.requires)).stand
    (subst (λ z. IsLeastOf c.least.result (views z)) c.as_slice.ensures.value c.least.ensures))
