-- The sequential run of a plan by agents that act as its agents do.
use Rattle.std.proofs.Common.{◌≡◌, refl, ap, sym, ◌∙◌, ℕ, zero, suc, List, [], ◌∷◌, ◌++◌, length, slice_get, get_or, Option, Some, None, option_map}
use Rattle.std.specs.Prelude.{option_and_then}
use Rattle.pm_base.specs.declared.layout.ClassRow.{ClassRow}
use Rattle.pm_base.specs.declared.rows.Entry.{Entry}
use Rattle.pm_base.specs.declared.stamp.Stamp.{Stamp}
use Rattle.pm_base.specs.declared.value.Hit.{Hit}
use Rattle.pm_base.specs.declared.value.Value.{Value}
use Rattle.pm_model.specs.Hits.{hits}
use Rattle.pm_model.specs.Runs.{Moved, Scene, and_then_on, deed, deed_from, least_stamp, moved, rest, scene_of, sequential_run, sequential_start, sequential_turn, step_at, turn_at, turns, work}
use Rattle.pm_model.specs.declared.AgentState.{AgentState}
use Rattle.pm_model.specs.declared.Deed.{Deed}
use Rattle.pm_model.specs.declared.State.{State}
use Rattle.pm_plan.specs.declared.plan.AgentRow.{AgentRow}
use Rattle.pm_plan.specs.declared.plan.Plan.{Plan}
use Rattle.pm_step.specs.declared.Next.{Next}
use Rattle.pm_step.specs.declared.Next.TheVariants as outcome
use Rattle.pm_alp.specs.Agents.{Actor, step_of}
use Rattle.pm_sim.specs.Worlds.{actor_of, no_row, rule_of}

abbrev fast_from : ℕ → (List (List Hit) → Next) → List ClassRow → List Value → List (List Hit) → Next → Option Deed
fast_from left f classes values answers (outcome.Act act) = Some (record { answers = answers; act = act })
fast_from zero f classes values answers (outcome.Ask q) = None
fast_from (suc left) f classes values answers (outcome.Ask q) =
    fast_from left f classes values (answers ++ hits classes values q ∷ []) (f (answers ++ hits classes values q ∷ []))

from_same : (left : ℕ) (scene : Scene) (f : List (List Hit) → Next) (answers : List (List Hit)) (n : Next)
    → ((as' : List (List Hit)) → step_at scene as' ≡ f as')
    → deed_from left scene answers n ≡ fast_from left f scene.classes scene.values answers n
from_same left scene f answers (outcome.Act act) same = refl
from_same zero scene f answers (outcome.Ask q) same = refl
from_same (suc left) scene f answers (outcome.Ask q) same =
    from_same left scene f (answers ++ hits scene.classes scene.values q ∷ [])
    (step_at scene (answers ++ hits scene.classes scene.values q ∷ [])) same
    ∙ ap (fast_from left f scene.classes scene.values (answers ++ hits scene.classes scene.values q ∷ []))
    (same (answers ++ hits scene.classes scene.values q ∷ []))

module _ (p : Plan) (actors : ℕ → Actor) where
  abbrev fast_deed : State → Stamp → AgentRow → AgentState → Option Deed
  fast_deed s stamp row agent = fast_from (length row.program.senses) ((actors stamp.agent).acts stamp agent.regs)
      p.layout.classes s.values [] ((actors stamp.agent).acts stamp agent.regs [])

  abbrev fast_turn_at : State → Stamp → Option Moved
  fast_turn_at s stamp =
      option_and_then (λ (row : AgentRow). option_and_then (λ (agent : AgentState). option_map (moved p s stamp)
      (fast_deed s stamp row agent)) (slice_get s.agents stamp.agent)) (slice_get p.agents stamp.agent)

  abbrev fast_turn : State → Option Moved
  fast_turn s = option_and_then (fast_turn_at s) (least_stamp 0 s.agents)

  abbrev pub fast_turns : ℕ → State → List Entry
  fast_turns zero s = []
  fast_turns (suc n) s = and_then_on (fast_turns n) (fast_turn s)

  module _ (same : (a : ℕ) → actor_of p a ≡ actors a) where
    row_is : (rows : List AgentRow) (i : ℕ) (row : AgentRow) → slice_get rows i ≡ Some row → get_or rows i no_row ≡ row
    row_is [] i row e = absurd (cc)
    row_is (r ∷ rows) zero row e = cc
    row_is (r ∷ rows) (suc i) row e = row_is rows i row e

    deed_same : (s : State) (stamp : Stamp) (row : AgentRow) (agent : AgentState)
        → slice_get p.agents stamp.agent ≡ Some row → deed (scene_of p s stamp row agent) ≡ fast_deed s stamp row agent
    deed_same s stamp row agent e =
        from_same (length row.program.senses) (scene_of p s stamp row agent)
        ((actors stamp.agent).acts stamp agent.regs) [] (step_at (scene_of p s stamp row agent) []) acts
        ∙ ap (fast_from (length row.program.senses)
        ((actors stamp.agent).acts stamp agent.regs) p.layout.classes s.values []) (acts [])
      where
        acts : (answers : List (List Hit))
            → step_at (scene_of p s stamp row agent) answers ≡ (actors stamp.agent).acts stamp agent.regs answers
        acts answers = ap
            (λ (r : AgentRow). step_of (rule_of p r) stamp agent.regs answers) (sym (row_is p.agents stamp.agent row e))
            ∙ ap (λ (x : Actor). x.acts stamp agent.regs answers) (same stamp.agent)

    turn_at_same : (s : State) (stamp : Stamp) → turn_at p s stamp ≡ fast_turn_at s stamp
    turn_at_same s stamp = of_row (slice_get p.agents stamp.agent) refl (slice_get s.agents stamp.agent)
      where
        of_row : (o : Option AgentRow) → slice_get p.agents stamp.agent ≡ o → (a : Option AgentState)
            → option_and_then (λ (row : AgentRow). option_and_then
            (λ (agent : AgentState). option_map (moved p s stamp) (deed (scene_of p s stamp row agent))) a) o
            ≡ option_and_then (λ (row : AgentRow). option_and_then
            (λ (agent : AgentState). option_map (moved p s stamp) (fast_deed s stamp row agent)) a) o
        of_row None e a = refl
        of_row (Some row) e None = refl
        of_row (Some row) e (Some agent) = ap (option_map (moved p s stamp)) (deed_same s stamp row agent e)

    turn_same : (s : State) → sequential_turn p s ≡ fast_turn s
    turn_same s = of_least (least_stamp 0 s.agents)
      where
        of_least : (o : Option Stamp) → option_and_then (turn_at p s) o ≡ option_and_then (fast_turn_at s) o
        of_least None = refl
        of_least (Some stamp) = turn_at_same s stamp

    of_turn : (n : ℕ) → ((r : State) → turns n p r ≡ fast_turns n r)
        → (o : Option Moved) → and_then_on (turns n p) o ≡ and_then_on (fast_turns n) o
    of_turn n again None = refl
    of_turn n again (Some m) = ap (λ z. m.entry ∷ z) (again m.state)

    turns_same : (n : ℕ) (s : State) → turns n p s ≡ fast_turns n s
    turns_same zero s = refl
    turns_same (suc n) s = ap (and_then_on (turns n p)) (turn_same s) ∙ of_turn n (λ r. turns_same n r) (fast_turn s)

    pub run_same : sequential_run p ≡ fast_turns (work p (sequential_start p)) (sequential_start p)
    unfolding rest
    run_same = turns_same (work p (sequential_start p)) (sequential_start p)
