-- The lowest run sends nothing back, one delivery after another.
use Rattle.std.proofs.Common.{◌≡◌, ℕ, refl, sym, subst, Some, Option}
use Rattle.pm_plan.specs.Plans.{IsValid}
use Rattle.pm_plan.specs.declared.plan.Plan.{Plan}
use Rattle.pm_sim.proofs.Promised.{plan_fits}
use Rattle.pm_sim.specs.Worlds.{Process, Taken, World, arrives, delivered, take_from}
use Rattle.pm_sim.specs.Worlds.Process.{AtAgent, AtClp}
use Rattle.pm_calm.proofs.Firsts.{taken_head}
use Rattle.pm_calm.proofs.Orders.{IsLowest, heads, some_lowest}
use Rattle.pm_calm.proofs.Rounds.{Kept, reached_kept}
use Rattle.pm_calm.proofs.Steps.{shut}
use Rattle.pm_cost.specs.Straight.{LowestStaysStraight, Straight}
use Rattle.pm_cost.proofs.Acting.{straight_agent}
use Rattle.pm_cost.proofs.Straightness.{straight_clp}

pub lowest_straight : (p : Plan) (n : ℕ) (w : World) → IsValid p → LowestStaysStraight p n w
lowest_straight p n w valid reached st s os ph calm order at x e =
    let t = taken_head w.links k.awake.lanes x low.there in
    subst (λ (o : Option Taken). Straight p (delivered p w x.to x.from o)) (sym t.1) (by x.to refl t.0 t.1)
  where
    k : Kept p w
    k = reached_kept p (plan_fits p valid) n w reached

    low : IsLowest p (heads w.links) x
    low = some_lowest p w.links x e

    by : (to : Process) → x.to ≡ to → (t : Taken) → take_from x.to x.from w.links ≡ Some t
        → Straight p (arrives p w x.to x.from t.message t.links)
    by (AtClp c) ex t f = subst (λ v. Straight p (arrives p w v x.from t.message t.links)) (sym ex)
        (straight_clp p k.whole.q w k.whole.full.recs k.whole.full.sim k.awake.linked st c x.from t
        (subst (λ v. take_from v x.from w.links ≡ Some t) ex f))
    by (AtAgent a) ex t f = subst (λ v. Straight p (arrives p w v x.from t.message t.links)) (sym ex)
        (straight_agent p k.whole.q w k.whole.full.recs k.whole.full.sim st
        (shut p w k s os ph calm order x low at a ex) a x.from t
        (subst (λ v. take_from v x.from w.links ≡ Some t) ex f))
