-- What is promised of runs of a valid plan.
use Rattle.pm_tables.specs.Tables.{no_value}
use Rattle.std.proofs.Common.{ℕ, zero, suc, ◌<◌, List, [], ◌∷◌, map, length, get_or, arith}
use Rattle.std.specs.List.{AllByRecursion}
use Rattle.pm_base.specs.Windows.{IsPair}
use Rattle.pm_base.specs.declared.run.Event.{Event}
use Rattle.pm_plan.specs.declared.plan.Plan.{Plan}
use Rattle.pm_plan.specs.declared.plan.VarRow.{VarRow}
use Rattle.pm_plan.specs.Plans.{IsValid}
use Rattle.pm_sim.specs.Promises.{AllIsCommitted, CommittedIsSequential, CommittedStays, EndIsLegal}
use Rattle.pm_sim.specs.Worlds.{first_world}
use Rattle.pm_sim.proofs.Firsts.{PlanFits}
use Rattle.pm_sim.proofs.Rules.{rules_ok}
use Rattle.pm_sim.proofs.Shapes.{place_in, plan_shape, timely, tree_ok}
use Rattle.pm_sim.proofs.Wholes.{all_committed, end_legal, prefix, simulation}

pair_at : (rows : List VarRow) (v : ℕ) → AllByRecursion (λ (r : VarRow). IsPair r.value) rows
    → v < length (map (λ (r : VarRow). r.value) rows) → IsPair (get_or (map (λ (r : VarRow). r.value) rows) v no_value)
pair_at [] v a lt = absurd (omega arith)
pair_at (r ∷ rows) zero a lt = a.0
pair_at (r ∷ rows) (suc v) a lt = pair_at rows v a.1 (omega arith)

pub plan_fits : (p : Plan) → IsValid p → PlanFits p
plan_fits p h = record {
  tree = tree_ok p h;
  shape = plan_shape p h;
  place_in = place_in p h;
  pairs = λ v lt. pair_at p.vars v h.pairs lt;
  rules = rules_ok p h;
}

pub committed-sequential : (p : Plan) (es : List Event) → IsValid p → CommittedIsSequential p es
committed-sequential p es h = simulation p (plan_fits p h) (timely p h) es

pub committed-stays : (p : Plan) (es fs : List Event) → CommittedStays p es fs
committed-stays p es fs = prefix p (first_world p) es fs

pub all-committed : (p : Plan) (es : List Event) → IsValid p → AllIsCommitted p es
all-committed p es h = all_committed p (plan_fits p h) (timely p h) es

pub end-legal : (p : Plan) (es : List Event) → EndIsLegal p es
end-legal p es = end_legal p (first_world p) es
