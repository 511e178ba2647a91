-- How far a run has come on its way to a time.
use Rattle.std.specs.List.{AllByRecursion}
use Rattle.std.specs.Prelude.{◌≡◌, ℕ, ◌++◌, ◌≤◌, Bool, true, false, nat_lt, List, length, Some, None, slice_get}
use Rattle.pm_base.specs.declared.rows.Entry.{Entry}
use Rattle.pm_plan.specs.declared.plan.AgentRow.{AgentRow}
use Rattle.pm_plan.specs.declared.plan.Plan.{Plan}
use Rattle.pm_model.specs.Entries.{run_below}
use Rattle.pm_model.specs.Runs.{least_stamp, rest, sequential_run, IsTimely}
use Rattle.pm_model.specs.declared.AgentState.{AgentState}
use Rattle.pm_model.specs.declared.State.{State}
use Rattle.pm_resume.specs.Cuts.{before, run_from, state_after, state_below}

-- the next step is before that time
abbrev pub acts_before : ℕ → State → Bool
acts_before from s = elim (least_stamp 0 s.agents) as (λ _. Bool) [ None ↦ false | Some stamp ↦ nat_lt stamp.time from ]

-- the state has a value for each variable of the plan, and for each agent as many registers as its rule
pub record HasShape (plan : Plan) (s : State) : Type 0 where
  pub values : length s.values ≡ length plan.vars
  pub agents : length s.agents ≡ length plan.agents
  pub regs : (k : ℕ) (row : AgentRow) (agent : AgentState) → slice_get plan.agents k ≡ Some row →
      slice_get s.agents k ≡ Some agent → length agent.regs ≡ length row.program.regs

-- after so many steps of the run, all of them before that time, it stands in this state
pub record HasDone (plan : Plan) (from n : ℕ) (s : State) : Type 0 where
  pub state : state_after plan n ≡ s
  pub timely : IsTimely plan s
  pub shape : HasShape plan s
  pub taken : List Entry
  pub count : length taken ≡ n
  pub parts : sequential_run plan ≡ taken ++ rest plan s
  pub early : AllByRecursion (λ (e : Entry). nat_lt e.stamp.time from ≡ true) taken

-- the run stands in this state after its steps before that time, of which there are at most so many
pub record HasReached (plan : Plan) (from most : ℕ) (s : State) : Type 0 where
  pub state : state_below plan (before from) ≡ s
  pub timely : IsTimely plan s
  pub shape : HasShape plan s
  pub few : length (run_below plan (before from)) ≤ most
  pub left : rest plan s ≡ run_from plan from
