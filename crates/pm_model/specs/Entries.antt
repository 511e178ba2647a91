-- What holds of the entries of a run.
use Rattle.std.specs.List.{AllByRecursion, filter}
use Rattle.std.specs.Prelude.{◌≡◌, ◌++◌, ◌≤◌, List, [], ◌∷◌, false, Some, slice_get}
use Rattle.pm_base.specs.Stamps.{is_below, IsBefore}
use Rattle.pm_base.specs.declared.rows.Entry.{Entry}
use Rattle.pm_base.specs.declared.stamp.Line.{Line}
use Rattle.pm_base.specs.declared.stamp.Stamp.{Stamp}
use Rattle.pm_plan.specs.declared.plan.AgentRow.{AgentRow}
use Rattle.pm_plan.specs.declared.plan.Plan.{Plan}
use Rattle.pm_model.specs.Runs.{sequential_run}
use Rattle.pm_model.specs.declared.AgentState.{AgentState}
use Rattle.pm_model.specs.declared.State.{State}

-- each entry's stamp comes before the stamps of all later ones
abbrev pub IsInOrder : List Entry → Type 0
IsInOrder [] = Unit {0}
IsInOrder (e ∷ es) = AllByRecursion (λ (l : Entry). IsBefore e.stamp l.stamp) es × IsInOrder es

-- the entries of the sequential run whose stamps are below the line
unfoldable pub run_below : Plan → Line → List Entry
run_below plan line = filter (λ (e : Entry). is_below e.stamp line) (sequential_run plan)

-- the entries below the line come first in the run, and those that follow them are not below it
pub record IsCutAt (plan : Plan) (line : Line) : Type 0 where
  pub left : List Entry
  pub parts : sequential_run plan ≡ run_below plan line ++ left
  pub later : AllByRecursion (λ (e : Entry). is_below e.stamp line ≡ false) left

-- the stamp names an agent of the plan, at its next time
pub record IsOwnTime (plan : Plan) (s : State) (stamp : Stamp) : Type 0 where
  pub row : AgentRow
  pub agent : AgentState
  pub acts : slice_get plan.agents stamp.agent ≡ Some row
  pub was : slice_get s.agents stamp.agent ≡ Some agent
  pub at : agent.next ≡ Some stamp.time

-- the stamp names an agent of the plan, at a time by the horizon
pub record IsOfPlan (plan : Plan) (e : Entry) : Type 0 where
  pub row : AgentRow
  pub acts : slice_get plan.agents e.stamp.agent ≡ Some row
  pub time : e.stamp.time ≤ plan.horizon
