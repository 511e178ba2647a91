use Rattle.std.proofs.Common.{◌≡◌, false, subst, sym}
use Rattle.pm_plan.specs.Plans.{IsValid}
use Rattle.pm_sim.specs.Reached.{Reached}
use Rattle.pm_sim.proofs.ReachedWorlds.{world_tells}
use Rattle.pm_core.specs.Views.{WorldView}
use Rattle.pm_core.proofs.world.World.count_kept.Goals as goal

pub returns-clause-above : goal.returns-clause-above
returns-clause-above c = λ h.
    let s = c.self.inside in
    let v = c.args.self.now in
    let well : s.spoilt ≡ false = subst (λ (z : WorldView). z.spoilt ≡ false) (sym c.self.view_is) h in
    let valid : IsValid v.plan = subst (λ (z : WorldView). IsValid z.plan) c.self.view_is c.self.invariant.valid in
    let reached : Reached v.plan s.made v.world = subst (λ (z : WorldView). Reached z.plan s.made z.world) c.self.view_is
    (c.self.invariant.stands well).reached in
    (world_tells v.plan s.made v.world valid reached).kept.above
