-- The sequential run of a plan.
use Rattle.std.specs.List.{AllByRecursion}
use Rattle.std.specs.Prelude.{◌≡◌, ℕ, zero, suc, ◌+◌, ◌-◌, ◌^◌, ◌<◌, ◌≤◌, min, nat_lt}
use Rattle.std.specs.Prelude.{nat_le, if◌then◌else◌, List, [], ◌∷◌, ◌++◌, map, length, set, slice_get}
use Rattle.std.specs.Prelude.{slice_index_or, sum_by, Option, Some, None, IfSome, option_map, option_and_then, ℤ, pos}
use Rattle.pm_base.specs.Changes.{applied}
use Rattle.pm_base.specs.declared.layout.ClassRow.{ClassRow}
use Rattle.pm_base.specs.declared.program.Program.{Program}
use Rattle.pm_base.specs.declared.program.RegRow.{RegRow}
use Rattle.pm_base.specs.declared.rows.Entry.{Entry}
use Rattle.pm_base.specs.declared.stamp.Stamp.{Stamp}
use Rattle.pm_base.specs.declared.value.Hit.{Hit}
use Rattle.pm_base.specs.declared.value.Value.{Value}
use Rattle.pm_base.specs.declared.value.Write.{Write}
use Rattle.pm_plan.specs.declared.plan.AgentRow.{AgentRow}
use Rattle.pm_plan.specs.declared.plan.Plan.{Plan}
use Rattle.pm_plan.specs.declared.plan.VarRow.{VarRow}
use Rattle.pm_step.specs.Expressions.{sight}
use Rattle.pm_step.specs.Steps.{step}
use Rattle.pm_step.specs.declared.Next.{Next}
use Rattle.pm_step.specs.declared.Next.TheVariants as next
use Rattle.pm_model.specs.Hits.{hits}
use Rattle.pm_model.specs.declared.AgentState.{AgentState}
use Rattle.pm_model.specs.declared.Deed.{Deed}
use Rattle.pm_model.specs.declared.State.{State}

-- a time, unless it is past the horizon
abbrev pub due : Plan → ℕ → Option ℕ
due plan time = if nat_le time plan.horizon then Some time else None

-- an agent before its first step
abbrev pub first_agent : Plan → AgentRow → AgentState
first_agent plan row =
    record { regs = map (λ (r : RegRow). r.start) row.program.regs; next = due plan row.start }

-- the state before the first step
abbrev pub sequential_start : Plan → State
sequential_start plan = record {
  values = map (λ (v : VarRow). v.value) plan.vars;
  agents = map (first_agent plan) plan.agents;
}

-- the sooner of two stamps, the first one where their times are equal
abbrev pub sooner : Option Stamp → Option Stamp → Option Stamp
sooner None b = b
sooner (Some a) None = Some a
sooner (Some a) (Some b) = if nat_lt b.time a.time then Some b else Some a

-- the least (next time, number) of the agents, of which the first has number k
abbrev pub least_stamp : ℕ → List AgentState → Option Stamp
least_stamp k [] = None
least_stamp k (a ∷ more) =
    sooner (option_map (λ t. record { time = t; agent = k }) a.next) (least_stamp (k + 1) more)

-- what a step sees: its rule, the classes, the present values, its stamp and the agent's registers
pub record Scene : Type 0 where
  pub program : Program
  pub classes : List ClassRow
  pub values : List Value
  pub stamp : Stamp
  pub regs : List ℤ

-- the step of the scene's rule after these answers
abbrev pub step_at : Scene → List (List Hit) → Next
step_at scene answers = step scene.program (sight scene.classes scene.stamp scene.regs answers)

-- each query is answered from the present values until the step acts, in at most so many queries
abbrev pub deed_from : ℕ → Scene → List (List Hit) → Next → Option Deed
deed_from left scene answers (next.Act act) = Some (record { answers = answers; act = act })
deed_from zero scene answers (next.Ask q) = None
deed_from (suc left) scene answers (next.Ask q) =
    deed_from left scene (answers ++ hits scene.classes scene.values q ∷ [])
    (step_at scene (answers ++ hits scene.classes scene.values q ∷ []))

-- a whole step: a rule has as many queries as senses
abbrev pub deed : Scene → Option Deed
deed scene = deed_from (length scene.program.senses) scene [] (step_at scene [])

-- the values after these writes
abbrev pub changed : List Write → List Value → List Value
changed [] values = values
changed (w ∷ ws) values =
    changed ws (set values w.var (applied w.change (slice_index_or values w.var (record { x = pos 0; y = pos 0 }))))

-- the next time after a wait, which stays within 64 bits
abbrev pub later : ℕ → ℕ → ℕ
later time wait = min (time + wait) (2 ^ 64 - 1)

-- the entry of a turn, and the state that it leaves
pub record Moved : Type 0 where
  pub entry : Entry
  pub state : State

-- the entry of these deeds, and the state after them, with the writes made and the agent waiting for its next time
abbrev pub moved : Plan → State → Stamp → Deed → Moved
moved plan s stamp d = record {
  entry = record { stamp = stamp; answers = d.answers; writes = d.act.writes };
  state = record {
    values = changed d.act.writes s.values;
    agents = set s.agents stamp.agent (record { regs = d.act.regs; next = due plan (later stamp.time d.act.wait) });
  };
}

-- what the agent of this row sees at its turn
abbrev pub scene_of : Plan → State → Stamp → AgentRow → AgentState → Scene
scene_of plan s stamp row agent = record {
  program = row.program;
  classes = plan.layout.classes;
  values = s.values;
  stamp = stamp;
  regs = agent.regs;
}

-- the turn of the agent of this stamp
abbrev pub turn_at : Plan → State → Stamp → Option Moved
turn_at plan s stamp =
    option_and_then (λ row.
    option_and_then (λ agent.
    option_map (moved plan s stamp) (deed (scene_of plan s stamp row agent)))
    (slice_get s.agents stamp.agent))
    (slice_get plan.agents stamp.agent)

-- the sequential turn: that of the agent with the least (next time, number); none where all are retired
abbrev pub sequential_turn : Plan → State → Option Moved
sequential_turn plan s = option_and_then (turn_at plan s) (least_stamp 0 s.agents)

-- the entry of a turn, and those that follow from the state that it leaves
abbrev pub and_then_on : (State → List Entry) → Option Moved → List Entry
and_then_on on None = []
and_then_on on (Some m) = m.entry ∷ on m.state

-- the entries of at most n turns
abbrev pub turns : ℕ → Plan → State → List Entry
turns zero plan s = []
turns (suc n) plan s = and_then_on (turns n plan) (sequential_turn plan s)

-- how many times an agent may still act at: those from its next time to the horizon
abbrev pub work_of : Plan → AgentState → ℕ
work_of plan agent = elim agent.next as (λ _. ℕ) [ None ↦ 0 | Some t ↦ suc plan.horizon - t ]

-- at least as many as the turns that are left
abbrev pub work : Plan → State → ℕ
work plan s = sum_by (work_of plan) s.agents

-- the agent makes no further step
abbrev pub IsRetired : AgentState → Type 0
IsRetired agent = agent.next ≡ None

-- the agent is retired, or due by the horizon
abbrev pub IsDue : Plan → AgentState → Type 0
IsDue plan agent = IfSome agent.next (λ t. t ≤ plan.horizon)

-- what each state of a run keeps
pub record IsTimely (plan : Plan) (s : State) : Type 0 where
  pub horizon : plan.horizon < 2 ^ 64 - 1
  pub agents : AllByRecursion (IsDue plan) s.agents
  pub count : length s.agents ≡ length plan.agents

-- the entries of all turns from a state on
unfoldable pub rest : Plan → State → List Entry
rest plan s = turns (work plan s) plan s

-- the sequential run: the entries of all turns from the start until all agents are retired
abbrev pub sequential_run : Plan → List Entry
sequential_run plan = rest plan (sequential_start plan)
