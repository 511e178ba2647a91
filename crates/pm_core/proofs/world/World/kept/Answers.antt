use Rattle.std.proofs.Common.{◌≡◌, arith, subst}
use Rattle.pm_base.specs.declared.stamp.Line.TheVariants as line
use Rattle.pm_sim.specs.Kept.{Kept, kept}
use Rattle.pm_sim.proofs.Keeps.{kept_none}
use Rattle.pm_core.proofs.world.World.kept.Goals as goal

pub returns-clause-none : goal.returns-clause-none
returns-clause-none c = λ h e.
    let v = c.args.self.now in
    let above : Kept line.End v.world = subst (λ l. Kept l v.world) e (c.count_kept.ensures.above h) in
    let none : kept v.world ≡ 0 = kept_none v.world above in
    omega (arith, none, c.count_kept.ensures.kept)
