-- There is no next turn only where all agents are retired.
use Rattle.std.proofs.Common.{◌≡◌, ℕ, zero, suc, ◌+◌, ◌<◌, inl, inr, List, [], ◌∷◌, length, Bool, true, false, Option, Some, None, option_map, refl, arith, cond, nat_lt}
use Rattle.std.specs.Prelude.{slice_get, option_and_then}
use Rattle.std.specs.List.{AllByRecursion}
use Rattle.std.proofs.lemmas.Option.{slice_get_within}
use Rattle.pm_base.specs.declared.stamp.Stamp.{Stamp}
use Rattle.pm_plan.specs.declared.plan.Plan.{Plan}
use Rattle.pm_model.proofs.Choices.{and_then-None, map-None}
use Rattle.pm_model.proofs.Deeds.{deed-acts}
use Rattle.pm_model.proofs.Turns.{least-found}
use Rattle.pm_model.specs.declared.AgentState.{AgentState}
use Rattle.pm_model.specs.declared.State.{State}
use Rattle.pm_model.specs.Runs.{IsTimely, IsRetired, sooner, least_stamp, sequential_turn, turn_at, moved, deed, scene_of}

neither : (b : Bool) (x y : Stamp) → cond b (Some y) (Some x) ≡ None → ⊥
neither true x y h = cc h
neither false x y h = cc h

sooner-none : (x y : Option Stamp) → sooner x y ≡ None → (x ≡ None) × (y ≡ None)
sooner-none None y h = (refl, h)
sooner-none (Some a) None h = absurd (cc h)
sooner-none (Some a) (Some b) h = absurd (neither (nat_lt b.time a.time) a b h)

-- no least stamp: each agent is retired
pub least-none : (k : ℕ) (agents : List AgentState) → least_stamp k agents ≡ None → AllByRecursion IsRetired agents
least-none k [] h = tt
least-none k (a ∷ more) h =
    let both = sooner-none (option_map (λ t. record { time = t; agent = k }) a.next) (least_stamp (k + 1) more) h in
    (map-None (λ t. record { time = t; agent = k }) a.next both.0, least-none (k + 1) more both.1)

-- an element within a list is there
get-there : {X : Type 0} (xs : List X) (i : ℕ) → i < length xs → slice_get xs i ≡ None → ⊥
get-there [] i lt h = omega (arith, lt)
get-there (x ∷ xs) zero lt h = cc h
get-there (x ∷ xs) (suc i) lt h = get-there xs i (omega (arith, lt)) h

-- the agent of the least stamp takes a turn
takes-one : (plan : Plan) (s : State) (st : Stamp) → length s.agents ≡ length plan.agents → least_stamp 0 s.agents ≡ Some st → turn_at plan s st ≡ None → ⊥
takes-one plan s st count least h =
    let (i, a, n, g, t) = least-found 0 s.agents st least in
    let within : st.agent < length s.agents = omega (arith, n, slice_get_within s.agents i a g) in
    elim (and_then-None (λ row. option_and_then (λ agent. option_map (moved plan s st) (deed (scene_of plan s st row agent))) (slice_get s.agents st.agent)) (slice_get plan.agents st.agent) h) [
      | inl e ↦ get-there plan.agents st.agent (omega (arith, within, count)) e
      | inr q ↦ elim (and_then-None (λ agent. option_map (moved plan s st) (deed (scene_of plan s st q.0 agent))) (slice_get s.agents st.agent) q.2) [
        | inl e ↦ get-there s.agents st.agent within e
        | inr r ↦ deed-acts (scene_of plan s st q.0 r.0) (map-None (moved plan s st) (deed (scene_of plan s st q.0 r.0)) r.2)
      ]
    ]

pub turn-none : (plan : Plan) (s : State) → sequential_turn plan s ≡ None → IsTimely plan s → AllByRecursion IsRetired s.agents
turn-none plan s h ok = elim (and_then-None (turn_at plan s) (least_stamp 0 s.agents) h) [
  | inl e ↦ least-none 0 s.agents e
  | inr q ↦ absurd (takes-one plan s q.0 ok.count q.1 q.2)
]
