-- A plan that starts in a state of a run has the rest of that run.
use Rattle.std.proofs.Common.{◌≡◌, ℕ, zero, suc, ◌+◌, ◌≤◌, inl, inr, List, [], ◌∷◌, ◌++◌, length, map, Bool, true, false, Option, Some, None, IfSome, nat_le, cond, ℤ, refl, sym, ap, ◌∙◌, arith}
use Rattle.std.specs.Prelude.{slice_get, option_and_then, option_map, unwrap_or}
use Rattle.std.specs.List.{AllByRecursion}
use Rattle.std.proofs.lemmas.Bool.Decides.{nat_tests}
use Rattle.pm_base.specs.declared.program.Program.{Program}
use Rattle.pm_base.specs.declared.program.RegRow.{RegRow}
use Rattle.pm_base.specs.declared.program.SenseRow.{SenseRow}
use Rattle.pm_base.specs.declared.rows.Entry.{Entry}
use Rattle.pm_base.specs.declared.stamp.Stamp.{Stamp}
use Rattle.pm_base.specs.declared.value.Hit.{Hit}
use Rattle.pm_base.specs.declared.value.Value.{Value}
use Rattle.pm_plan.specs.declared.plan.AgentRow.{AgentRow}
use Rattle.pm_plan.specs.declared.plan.Plan.{Plan}
use Rattle.pm_plan.specs.declared.plan.VarRow.{VarRow}
use Rattle.pm_step.specs.Expressions.{Sight, sight}
use Rattle.pm_step.specs.Steps.{ask_or_act, step}
use Rattle.pm_step.specs.declared.Next.{Next}
use Rattle.pm_step.specs.declared.Next.TheVariants as next
use Rattle.pm_model.specs.Hits.{hits}
use Rattle.pm_model.specs.Runs.{IsDue, IsTimely, Moved, Scene, and_then_on, deed, deed_from, due, first_agent, least_stamp, moved, rest, scene_of, sequential_run, sequential_start, sequential_turn, step_at, turn_at, turns, work}
use Rattle.pm_model.specs.declared.AgentState.{AgentState}
use Rattle.pm_model.specs.declared.State.{State}
use Rattle.pm_resume.proofs.Pairs.{map_seconds, pair_at}
use Rattle.pm_resume.specs.Cuts.{pairwise, resumed, with_regs, with_start, with_state, with_value}
use Rattle.pm_resume.specs.Reached.{HasShape}

-- a rule does the same whatever its registers begin with
found_same : (program : Program) (regs : List ℤ) (s : Sight) (found : Option SenseRow) → ask_or_act s (with_regs program regs) found ≡ ask_or_act s program found
found_same program regs s (Some row) = refl
found_same program regs s None = refl

step_same : (program : Program) (regs : List ℤ) (s : Sight) → step (with_regs program regs) s ≡ step program s
unfolding step
step_same program regs s = found_same program regs s _

-- what a step sees, with a rule whose registers begin otherwise
abbrev other_rule : Scene → List ℤ → Scene
other_rule scene regs = record {
  program = with_regs scene.program regs;
  classes = scene.classes;
  values = scene.values;
  stamp = scene.stamp;
  regs = scene.regs;
}

deed_from_same : (left : ℕ) (scene : Scene) (regs : List ℤ) (answers : List (List Hit)) (n : Next) → deed_from left (other_rule scene regs) answers n ≡ deed_from left scene answers n
deed_from_same left scene regs answers (next.Act act) = refl
deed_from_same zero scene regs answers (next.Ask q) = refl
deed_from_same (suc left) scene regs answers (next.Ask q) =
    let more = answers ++ hits scene.classes scene.values q ∷ [] in
    ap (deed_from left (other_rule scene regs) more) (step_same scene.program regs (sight scene.classes scene.stamp scene.regs more))
    ∙ deed_from_same left scene regs more (step_at scene more)

deed_same : (scene : Scene) (regs : List ℤ) → deed (other_rule scene regs) ≡ deed scene
deed_same scene regs =
    ap (deed_from (length scene.program.senses) (other_rule scene regs) []) (step_same scene.program regs (sight scene.classes scene.stamp scene.regs []))
    ∙ deed_from_same (length scene.program.senses) scene regs [] (step_at scene [])

-- the turn of an agent of this row
abbrev turn_of : Plan → State → Stamp → AgentRow → Option Moved
turn_of plan s stamp row =
    option_and_then (λ agent. option_map (moved plan s stamp) (deed (scene_of plan s stamp row agent))) (slice_get s.agents stamp.agent)

turn_same : (plan : Plan) (o s : State) (stamp : Stamp) (row : AgentRow) (from : AgentState) (found : Option AgentState)
    → option_and_then (λ agent. option_map (moved (resumed plan o) s stamp) (deed (scene_of (resumed plan o) s stamp (with_state plan row from) agent))) found
    ≡ option_and_then (λ agent. option_map (moved plan s stamp) (deed (scene_of plan s stamp row agent))) found
unfolding resumed
turn_same plan o s stamp row from None = refl
turn_same plan o s stamp row from (Some agent) = ap (option_map (moved plan s stamp)) (deed_same (scene_of plan s stamp row agent) from.regs)

turn_at_same : (plan : Plan) (o s : State) (stamp : Stamp) → length o.agents ≡ length plan.agents → turn_at (resumed plan o) s stamp ≡ turn_at plan s stamp
unfolding resumed
turn_at_same plan o s stamp count = elim (pair_at (with_state plan) plan.agents o.agents stamp.agent count) [
  | inl n ↦ ap (option_and_then (turn_of (resumed plan o) s stamp)) n.1 ∙ sym (ap (option_and_then (turn_of plan s stamp)) n.0)
  | inr p ↦
      ap (option_and_then (turn_of (resumed plan o) s stamp)) p.both
      ∙ turn_same plan o s stamp p.first p.second (slice_get s.agents stamp.agent)
      ∙ sym (ap (option_and_then (turn_of plan s stamp)) p.left)
]

chosen_same : (plan : Plan) (o s : State) (found : Option Stamp) → length o.agents ≡ length plan.agents
    → option_and_then (turn_at (resumed plan o) s) found ≡ option_and_then (turn_at plan s) found
chosen_same plan o s None count = refl
chosen_same plan o s (Some stamp) count = turn_at_same plan o s stamp count

-- each state has the same turn
pub resumed_turn : (plan : Plan) (o s : State) → length o.agents ≡ length plan.agents → sequential_turn (resumed plan o) s ≡ sequential_turn plan s
resumed_turn plan o s count = chosen_same plan o s (least_stamp 0 s.agents) count

on_same : (f g : State → List Entry) (m : Option Moved) → ((s : State) → f s ≡ g s) → and_then_on f m ≡ and_then_on g m
on_same f g None same = refl
on_same f g (Some m) same = ap (λ es. m.entry ∷ es) (same m.state)

turns_same : (n : ℕ) (plan : Plan) (o s : State) → length o.agents ≡ length plan.agents → turns n (resumed plan o) s ≡ turns n plan s
turns_same zero plan o s count = refl
turns_same (suc n) plan o s count =
    ap (and_then_on (turns n (resumed plan o))) (resumed_turn plan o s count)
    ∙ on_same (turns n (resumed plan o)) (turns n plan) (sequential_turn plan s) (λ r. turns_same n plan o r count)

work_same : (plan : Plan) (o s : State) → work (resumed plan o) s ≡ work plan s
unfolding resumed
work_same plan o s = refl

rest_same : (plan : Plan) (o s : State) → length o.agents ≡ length plan.agents → rest (resumed plan o) s ≡ rest plan s
unfolding rest
rest_same plan o s count = ap (λ n. turns n (resumed plan o) s) (work_same plan o s) ∙ turns_same (work plan s) plan o s count

-- a time by the horizon is due, and the one past it isn't
due_now : (plan : Plan) (t : ℕ) (b : Bool) → nat_le t plan.horizon ≡ b → t ≤ plan.horizon → cond b (Some t) None ≡ Some t
due_now plan t true e le = refl
due_now plan t false e le = absurd (grind (arith, nat_tests, e, le))

due_never : (plan : Plan) (b : Bool) → nat_le (plan.horizon + 1) plan.horizon ≡ b → cond b (Some (plan.horizon + 1)) None ≡ None
due_never plan true e = absurd (grind (arith, nat_tests, e))
due_never plan false e = refl

due_again : (plan : Plan) (next : Option ℕ) → IfSome next (λ t. t ≤ plan.horizon) → due plan (unwrap_or next (plan.horizon + 1)) ≡ next
due_again plan None by = due_never plan (nat_le (plan.horizon + 1) plan.horizon) refl
due_again plan (Some t) by = due_now plan t (nat_le t plan.horizon) refl by

abbrev the_agent : List ℤ → Option ℕ → AgentState
the_agent regs next = record { regs = regs; next = next }

agent_again : (plan : Plan) (row : AgentRow) (agent : AgentState) → IsDue plan agent → length agent.regs ≡ length row.program.regs
    → first_agent plan (with_state plan row agent) ≡ agent
agent_again plan row agent by count =
    ap (λ rs. the_agent rs (due plan (unwrap_or agent.next (plan.horizon + 1)))) (map_seconds (λ (r : RegRow). r.start) with_start row.program.regs agent.regs (λ r x. refl) count)
    ∙ ap (the_agent agent.regs) (due_again plan agent.next by)

agents_again : (plan : Plan) (rows : List AgentRow) (agents : List AgentState) → length agents ≡ length rows → AllByRecursion (IsDue plan) agents
    → ((k : ℕ) (row : AgentRow) (agent : AgentState) → slice_get rows k ≡ Some row → slice_get agents k ≡ Some agent → length agent.regs ≡ length row.program.regs)
    → map (first_agent plan) (pairwise (with_state plan) rows agents) ≡ agents
agents_again plan [] [] e by regs = refl
agents_again plan [] (a ∷ agents) e by regs = absurd (omega (arith, e))
agents_again plan (r ∷ rows) [] e by regs = absurd (omega (arith, e))
agents_again plan (r ∷ rows) (a ∷ agents) e by regs =
    ap (λ x. x ∷ map (first_agent plan) (pairwise (with_state plan) rows agents)) (agent_again plan r a by.0 (regs 0 r a refl refl))
    ∙ ap (λ xs. a ∷ xs) (agents_again plan rows agents (omega (arith, e)) by.1 (λ k row agent r_is a_is. regs (suc k) row agent r_is a_is))

abbrev the_state : List Value → List AgentState → State
the_state values agents = record { values = values; agents = agents }

-- the plan starts in that state
pub resumed_start : (plan : Plan) (s : State) → IsTimely plan s → HasShape plan s → sequential_start (resumed plan s) ≡ s
unfolding resumed
resumed_start plan s ok shape =
    ap (λ vs. the_state vs (map (first_agent plan) (pairwise (with_state plan) plan.agents s.agents)))
    (map_seconds (λ (v : VarRow). v.value) with_value plan.vars s.values (λ v x. refl) shape.values)
    ∙ ap (the_state s.values) (agents_again plan plan.agents s.agents shape.agents ok.agents shape.regs)

-- its run is the rest of the run from that state on
pub resumed_run : (plan : Plan) (s : State) → IsTimely plan s → HasShape plan s → sequential_run (resumed plan s) ≡ rest plan s
resumed_run plan s ok shape = ap (rest (resumed plan s)) (resumed_start plan s ok shape) ∙ rest_same plan s s shape.agents
