-- The start of a run: all agents are due by the horizon, and the work of the whole run is a number of 64 bits.
use Rattle.std.proofs.Common.{◌≡◌, ℕ, suc, ◌+◌, ◌*◌, ◌^◌, ◌<◌, ◌≤◌, List, [], ◌∷◌, map, length, Bool, true, false, Some, None, cond, nat_le, arith, ℤ}
use Rattle.std.specs.Prelude.{sum_by}
use Rattle.std.proofs.Math.Nat.{mul-le-mul_right, suc-mul}
use Rattle.std.proofs.lemmas.List.{length-map}
use Rattle.std.proofs.lemmas.List.Sums.{sum_by-cons}
use Rattle.std.specs.List.{AllByRecursion}
use Rattle.pm_plan.specs.declared.plan.AgentRow.{AgentRow}
use Rattle.pm_plan.specs.declared.plan.Plan.{Plan}
use Rattle.pm_plan.specs.Limits.{IsWithinLimits}
use Rattle.pm_model.specs.declared.AgentState.{AgentState}
use Rattle.pm_model.specs.Runs.{IsTimely, IsDue, first_agent, sequential_start, work, work_of}
use Rattle.pm_model.proofs.Turns.{due-due}

all-due : (plan : Plan) (rows : List AgentRow) → AllByRecursion (IsDue plan) (map (first_agent plan) rows)
all-due plan [] = tt
all-due plan (row ∷ rows) = (due-due plan row.start, all-due plan rows)

pub starts-timely : (plan : Plan) → IsWithinLimits plan → IsTimely plan (sequential_start plan)
starts-timely plan h = record {
  horizon = omega (arith, h.horizon);
  agents = all-due plan plan.agents;
  count = length-map plan.agents (first_agent plan);
}

work-by : (plan : Plan) (x : ℕ) (regs : List ℤ) (b : Bool) → work_of plan (record { regs = regs; next = cond b (Some x) None }) ≤ suc plan.horizon
work-by plan x regs true = omega arith
work-by plan x regs false = omega arith

-- an agent acts at most once at each time
work-one : (plan : Plan) (row : AgentRow) → work_of plan (first_agent plan row) ≤ suc plan.horizon
work-one plan row = work-by plan row.start (first_agent plan row).regs (nat_le row.start plan.horizon)

states-most : (f : AgentState → ℕ) (g : AgentRow → AgentState) (m : ℕ) (rows : List AgentRow) → ((row : AgentRow) → f (g row) ≤ m)
    → sum_by f (map g rows) ≤ length rows * m
states-most f g m [] h = omega arith
states-most f g m (row ∷ rows) h =
    let rest : sum_by f (map g rows) ≤ length rows * m = states-most f g m rows h in
    let all : sum_by f (g row ∷ map g rows) ≡ f (g row) + sum_by f (map g rows) = sum_by-cons f (g row) (map g rows) in
    let more : suc (length rows) * m ≡ length rows * m + m = suc-mul (length rows) m in
    let sum : f (g row) + sum_by f (map g rows) ≤ suc (length rows) * m = omega (arith, rest, h row, more) in
    rw all sum

work-all : (plan : Plan) (rows : List AgentRow) → sum_by (work_of plan) (map (first_agent plan) rows) ≤ length rows * suc plan.horizon
work-all plan rows = states-most (work_of plan) (first_agent plan) (suc plan.horizon) rows (work-one plan)

pub starts-small : (plan : Plan) → IsWithinLimits plan → work plan (sequential_start plan) < 2 ^ 64
starts-small plan h =
    let all : work plan (sequential_start plan) ≤ length plan.agents * suc plan.horizon = work-all plan plan.agents in
    let few : length plan.agents * suc plan.horizon ≤ 1024 * suc plan.horizon = mul-le-mul_right (suc plan.horizon) h.agents in
    omega (arith, all, few, h.horizon)
