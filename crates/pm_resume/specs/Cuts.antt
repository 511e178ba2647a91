-- The plan that goes on from a time.
use Rattle.std.specs.List.{filter}
use Rattle.std.specs.Prelude.{ℕ, zero, suc, ◌+◌, ◌==◌, Bool, nat_le, nat_lt, if◌then◌else◌, List, [], ◌∷◌, length, ℤ}
use Rattle.std.specs.Prelude.{slice_get, Option, Some, None, is_none, unwrap_or, option_and_then, Result, Ok, Err}
use Rattle.pm_base.specs.declared.program.Program.{Program}
use Rattle.pm_base.specs.declared.program.RegRow.{RegRow}
use Rattle.pm_base.specs.declared.rows.Entry.{Entry}
use Rattle.pm_base.specs.declared.stamp.Line.{Line}
use Rattle.pm_base.specs.declared.stamp.Line.TheVariants as line
use Rattle.pm_base.specs.declared.value.Value.{Value}
use Rattle.pm_plan.specs.Numbers.{least}
use Rattle.pm_plan.specs.declared.plan.AgentRow.{AgentRow}
use Rattle.pm_plan.specs.declared.plan.Plan.{Plan}
use Rattle.pm_plan.specs.declared.plan.VarRow.{VarRow}
use Rattle.pm_model.specs.Entries.{run_below}
use Rattle.pm_model.specs.Runs.{sequential_run, sequential_start, sequential_turn}
use Rattle.pm_model.specs.declared.AgentState.{AgentState}
use Rattle.pm_model.specs.declared.State.{State}
use Rattle.pm_resume.specs.declared.CutFault.{CutFault}
use Rattle.pm_resume.specs.declared.CutFault.TheVariants as fault

-- the entries of the sequential run with that time or a later one
unfoldable pub run_from : Plan → ℕ → List Entry
run_from plan from = filter (λ (e : Entry). nat_le from e.stamp.time) (sequential_run plan)

-- the line below all steps of that time and of later ones
abbrev pub before : ℕ → Line
before from = line.At (record { time = from; agent = 0 })

-- the state after a turn; the same where all agents are retired
abbrev pub after_turn : Plan → State → State
after_turn plan s = elim (sequential_turn plan s) as (λ _. State) [ None ↦ s | Some m ↦ m.state ]

-- the state of the sequential run after so many turns
abbrev pub state_after : Plan → ℕ → State
state_after plan zero = sequential_start plan
state_after plan (suc n) = after_turn plan (state_after plan n)

-- the state of the sequential run after its entries below that line
unfoldable pub state_below : Plan → Line → State
state_below plan line = state_after plan (length (run_below plan line))

-- what is made of the items of two lists at each index
abbrev pub pairwise : {A B C : Type 0} → (A → B → C) → List A → List B → List C
pairwise f [] ys = []
pairwise f (x ∷ xs) [] = []
pairwise f (x ∷ xs) (y ∷ ys) = f x y ∷ pairwise f xs ys

-- a variable that begins with that value
abbrev pub with_value : VarRow → Value → VarRow
with_value row value = record { name = row.name; at = row.at; value = value }

-- a register that begins with that number
abbrev pub with_start : RegRow → ℤ → RegRow
with_start row start = record { name = row.name; start = start }

-- a rule whose registers begin with those numbers
abbrev pub with_regs : Program → List ℤ → Program
with_regs program regs =
    record { regs = pairwise with_start program.regs regs; senses = program.senses; body = program.body }

-- an agent that starts with that state; a retired one starts past the horizon
abbrev pub with_state : Plan → AgentRow → AgentState → AgentRow
with_state plan row agent = record {
  name = row.name;
  home = row.home;
  start = unwrap_or agent.next (plan.horizon + 1);
  program = with_regs row.program agent.regs;
}

-- the plan that starts in that state
unfoldable pub resumed : Plan → State → Plan
resumed plan s = record {
  horizon = plan.horizon;
  move_after = plan.move_after;
  clps = plan.clps;
  layout = plan.layout;
  classes = plan.classes;
  vars = pairwise with_value plan.vars s.values;
  agents = pairwise (with_state plan) plan.agents s.agents;
}

-- whether the agent of that number makes no further step
abbrev pub is_retired : State → ℕ → Bool
is_retired s agent = is_none (option_and_then (λ (a : AgentState). a.next) (slice_get s.agents agent))

-- the first agent that is retired
unfoldable pub first_retired : State → Option ℕ
first_retired s = least (is_retired s) (length s.agents)

-- the first retired agent, where a plan may name no time past the horizon
abbrev pub stuck : Plan → State → Option ℕ
stuck plan s = if plan.horizon == 1000000000000 then first_retired s else None

-- the plan, unless an agent can't start in it
abbrev pub unless_stuck : Option ℕ → Plan → Result Plan CutFault
unless_stuck None plan = Ok plan
unless_stuck (Some agent) plan = Err (fault.Retired agent)

-- the plan that goes on from a state
abbrev pub going_on : Plan → State → Result Plan CutFault
going_on plan s = unless_stuck (stuck plan s) (resumed plan s)

-- the plan that goes on from a time, where at most so many steps lie before it; or why there is none
unfoldable pub cut_of : Plan → ℕ → ℕ → Result Plan CutFault
cut_of plan from budget =
    if nat_lt budget (length (run_below plan (before from))) then Err fault.BudgetSpent
    else going_on plan (state_below plan (before from))
