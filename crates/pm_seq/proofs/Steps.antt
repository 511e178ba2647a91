-- What a turn's answer says of the run.
use Rattle.std.proofs.Common.{◌≡◌, List, [], ◌∷◌, Option, Some, None, Result, Ok, Err, refl, sym, ◌∙◌, inl, inr, IfOk, ◌↔◌}
use Rattle.std.specs.Prelude.{MatchOption}
use Rattle.std.specs.List.{AllByRecursion}
use Rattle.pm_base.specs.declared.rows.Entry.{Entry}
use Rattle.pm_plan.specs.declared.plan.Plan.{Plan}
use Rattle.pm_model.proofs.Retired.{turn-none}
use Rattle.pm_model.proofs.Rises.{due-there}
use Rattle.pm_model.proofs.Turns.{least-found, took, rest-done, rest-step}
use Rattle.pm_model.specs.declared.AgentState.{AgentState}
use Rattle.pm_model.specs.declared.State.{State}
use Rattle.pm_model.specs.Runs.{IsRetired, IsTimely, least_stamp, rest, sequential_turn}
use Rattle.pm_model.proofs.Choices.{option-cases}
use Rattle.pm_seq.proofs.Turns.{turn-none-left}

-- what a turn answers, and the state that it leaves
abbrev pub Turned : {E : Type 0} → Plan → State → State → Result (Option Entry) E → Type 0
Turned plan s r answer = IfOk answer (λ o. MatchOption o ((sequential_turn plan s ≡ None) × (r ≡ s))
    (λ e. sequential_turn plan s ≡ Some (record { entry = e; state = r })))

pub turned-retired : {E : Type 0} (plan : Plan) (s r : State) (answer : Result (Option Entry) E) → IsTimely plan s → Turned plan s r answer
    → IfOk answer (λ o. (o ≡ None) ↔ AllByRecursion IsRetired s.agents)
turned-retired plan s r (Err e) ok t = tt
turned-retired plan s r (Ok None) ok t = (λ _. turn-none plan s t.0 ok, λ _. refl)
turned-retired plan s r (Ok (Some e)) ok t =
    let k = took plan s (record { entry = e; state = r }) t in
    (λ h. absurd (cc h), λ all. absurd (due-there s.agents k.stamp.agent k.agent k.stamp.time k.agent_is k.time all))

pub turned-left : {E : Type 0} (plan : Plan) (s r : State) (answer : Result (Option Entry) E) → IsTimely plan s → Turned plan s r answer
    → IfOk answer (λ o. MatchOption o (rest plan s ≡ []) (λ e. rest plan s ≡ e ∷ rest plan r))
turned-left plan s r (Err e) ok t = tt
turned-left plan s r (Ok None) ok t = rest-done plan s t.0
turned-left plan s r (Ok (Some e)) ok t = rest-step plan s (record { entry = e; state = r }) t ok

cons-not : {e : Entry} {es : List Entry} → e ∷ es ≡ [] → ⊥
cons-not h = cc h

-- where all agents are retired none acts next
pub retired-none : (agents : List AgentState) → AllByRecursion IsRetired agents → least_stamp 0 agents ≡ None
retired-none agents all = elim (option-cases (least_stamp 0 agents)) [
  | inl none ↦ none
  | inr q ↦
      let (i, a, n, g, t) = least-found 0 agents q.0 q.1 in
      absurd (due-there agents i a q.0.time g t all)
]

-- nothing is left where no agent acts next
pub none-left : (plan : Plan) (s : State) → least_stamp 0 s.agents ≡ None → rest plan s ≡ []
none-left plan s e = rest-done plan s (turn-none-left plan s e)

-- where nothing is left all agents are retired
pub left-none : (plan : Plan) (s : State) → IsTimely plan s → rest plan s ≡ [] → AllByRecursion IsRetired s.agents
left-none plan s ok e = elim (option-cases (sequential_turn plan s)) [
  | inl h ↦ turn-none plan s h ok
  | inr q ↦ absurd (cons-not (sym (rest-step plan s q.0 q.1 ok) ∙ e))
]
