-- Each turn lowers the work that is left, so a run ends, and its entries are those of one turn and of the rest.
use Rattle.std.proofs.Common.{◌≡◌, ℕ, zero, suc, ◌+◌, ◌-◌, ◌^◌, ◌<◌, ◌≤◌, ◌⊎◌, inl, inr, List, [], ◌∷◌, length, length-set, get_or, set, Bool, true, false, Option, Some, None, IfSome, option_map, refl, sym, ap, ◌∙◌, subst, arith, cond, nat_lt, nat_le}
use Rattle.std.specs.Prelude.{slice_get, option_and_then, sum_by, ℤ}
use Rattle.std.specs.List.{AllByRecursion}
use Rattle.std.proofs.lemmas.Option.{same_Some, slice_get_within, slice_get-get_or}
use Rattle.std.proofs.lemmas.List.Sums.{sum_by-set}
use Rattle.std.proofs.lemmas.Bool.Decides.{nat_tests}
use Rattle.pm_base.specs.declared.stamp.Stamp.{Stamp}
use Rattle.pm_plan.specs.declared.plan.AgentRow.{AgentRow}
use Rattle.pm_plan.specs.declared.plan.Plan.{Plan}
use Rattle.pm_model.proofs.Choices.{and_then-Some, map-Some, option-cases}
use Rattle.pm_model.proofs.Deeds.{deed-waits}
use Rattle.pm_model.specs.declared.AgentState.{AgentState}
use Rattle.pm_model.specs.declared.State.{State}
use Rattle.pm_model.specs.declared.Deed.{Deed}
use Rattle.pm_model.specs.Runs.{IsTimely, IsDue, Moved, due, later, sooner, least_stamp, sequential_turn, turn_at, moved, deed, scene_of, turns, and_then_on, work_of, work, rest}

picked : (t : Bool) (a b st : Stamp) → cond t (Some b) (Some a) ≡ Some st → (Some a ≡ Some st) ⊎ (Some b ≡ Some st)
picked true a b st h = inr h
picked false a b st h = inl h

sooner-one : (x y : Option Stamp) (st : Stamp) → sooner x y ≡ Some st → (x ≡ Some st) ⊎ (y ≡ Some st)
sooner-one None y st h = inr h
sooner-one (Some a) None st h = inl h
sooner-one (Some a) (Some b) st h = picked (nat_lt b.time a.time) a b st h

stamped : (k : ℕ) (next : Option ℕ) (st : Stamp) → option_map (λ t. record { time = t; agent = k }) next ≡ Some st → (next ≡ Some st.time) × (st.agent ≡ k)
stamped k None st h = absurd (cc h)
stamped k (Some t) st h =
    let e : record { time = t; agent = k } ≡ st = same_Some _ _ h in
    (ap (λ (s : Stamp). Some s.time) e, sym (ap (λ (s : Stamp). s.agent) e))

-- the least stamp is that of an agent
pub least-found : (k : ℕ) (agents : List AgentState) (st : Stamp) → least_stamp k agents ≡ Some st
    → (i : ℕ) × (a : AgentState) × (st.agent ≡ k + i) × (slice_get agents i ≡ Some a) × (a.next ≡ Some st.time)
least-found k [] st h = absurd (cc h)
least-found k (a ∷ more) st h =
    elim (sooner-one (option_map (λ t. record { time = t; agent = k }) a.next) (least_stamp (k + 1) more) st h) [
      | inl e ↦ let s : (a.next ≡ Some st.time) × (st.agent ≡ k) = stamped k a.next st e in (0, a, omega (arith, s.1), refl, s.0)
      | inr e ↦ let (i, b, n, g, t) = least-found (k + 1) more st e in (suc i, b, omega (arith, n), g, t)
    ]

-- due is by the horizon
due-is : (plan : Plan) (x : ℕ) (b : Bool) → nat_le x plan.horizon ≡ b → IfSome (cond b (Some x) None) (λ t. t ≤ plan.horizon)
due-is plan x true h = grind (arith, nat_tests, h)
due-is plan x false h = tt

pub due-due : (plan : Plan) (x : ℕ) → IfSome (due plan x) (λ t. t ≤ plan.horizon)
due-due plan x = due-is plan x (nat_le x plan.horizon) refl

-- an agent that goes on has less work
due-falls : (plan : Plan) (t x : ℕ) (regs : List ℤ) (b : Bool) → t < x → t ≤ plan.horizon
    → work_of plan (record { regs = regs; next = cond b (Some x) None }) < suc plan.horizon - t
due-falls plan t x regs true lt le = omega arith
due-falls plan t x regs false lt le = omega arith

-- the time rises
pub later-rises : (t w : ℕ) → 1 ≤ w → t < 2 ^ 64 - 1 → t < later t w
later-rises t w one lt = omega arith

pub all-at : {X : Type 0} (P : X → Type 0) (xs : List X) (i : ℕ) (x : X) → slice_get xs i ≡ Some x → AllByRecursion P xs → P x
all-at P [] i x h all = absurd (cc h)
all-at P (y ∷ xs) zero x h all = subst P (same_Some _ _ h) all.0
all-at P (y ∷ xs) (suc i) x h all = all-at P xs i x h all.1

all-set : {X : Type 0} (P : X → Type 0) (xs : List X) (i : ℕ) (x : X) → P x → AllByRecursion P xs → AllByRecursion P (set xs i x)
all-set P [] i x p all = tt
all-set P (y ∷ xs) zero x p all = (p, all.1)
all-set P (y ∷ xs) (suc i) x p all = (all.0, all-set P xs i x p all.1)

-- what a turn comes apart into
pub record Took (plan : Plan) (s : State) (m : Moved) : Type 0 where
  pub stamp : Stamp
  pub row : AgentRow
  pub agent : AgentState
  pub done : Deed
  pub least : least_stamp 0 s.agents ≡ Some stamp
  pub row_is : slice_get plan.agents stamp.agent ≡ Some row
  pub agent_is : slice_get s.agents stamp.agent ≡ Some agent
  pub time : agent.next ≡ Some stamp.time
  pub deed_is : deed (scene_of plan s stamp row agent) ≡ Some done
  pub gives : moved plan s stamp done ≡ m

same-agent : (xs : List AgentState) (i j : ℕ) (a b : AgentState) → i ≡ j → slice_get xs i ≡ Some a → slice_get xs j ≡ Some b → a ≡ b
same-agent xs i j a b e g h = same_Some _ _ (sym g ∙ ap (slice_get xs) e ∙ h)

pub took : (plan : Plan) (s : State) (m : Moved) → sequential_turn plan s ≡ Some m → Took plan s m
took plan s m h =
    let (st, least, h1) = and_then-Some (turn_at plan s) (least_stamp 0 s.agents) m h in
    let (row, row_is, h2) = and_then-Some (λ row. option_and_then (λ agent. option_map (moved plan s st) (deed (scene_of plan s st row agent))) (slice_get s.agents st.agent)) (slice_get plan.agents st.agent) m h1 in
    let (agent, agent_is, h3) = and_then-Some (λ agent. option_map (moved plan s st) (deed (scene_of plan s st row agent))) (slice_get s.agents st.agent) m h2 in
    let (d, deed_is, h4) = map-Some (moved plan s st) (deed (scene_of plan s st row agent)) m h3 in
    let (i, b, n, g, t) = least-found 0 s.agents st least in
    let ie : i ≡ st.agent = omega (arith, n) in
    record {
      stamp = st;
      row = row;
      agent = agent;
      done = d;
      least = least;
      row_is = row_is;
      agent_is = agent_is;
      time = ap (λ (a : AgentState). a.next) (same-agent s.agents st.agent i agent b (sym ie) agent_is g) ∙ t;
      deed_is = deed_is;
      gives = h4;
    }

set-falls : (plan : Plan) (agents : List AgentState) (i : ℕ) (a b : AgentState) → slice_get agents i ≡ Some a
    → work_of plan b < work_of plan a → sum_by (work_of plan) (set agents i b) < sum_by (work_of plan) agents
set-falls plan agents i a b g lt =
    let within : i < length agents = slice_get_within agents i a g in
    let e = sum_by-set (work_of plan) agents i b a within in
    let same : get_or agents i a ≡ a = same_Some _ _ (sym (slice_get-get_or agents i a within) ∙ g) in
    omega (arith, lt, rw same at e)

-- the state that a turn leaves
falls : (plan : Plan) (s : State) (stamp : Stamp) (d : Deed) (agent : AgentState) → IsTimely plan s → 1 ≤ d.act.wait
    → slice_get s.agents stamp.agent ≡ Some agent → agent.next ≡ Some stamp.time
    → (work plan (moved plan s stamp d).state < work plan s) × IsTimely plan (moved plan s stamp d).state
falls plan s stamp d agent ok one at next =
    let by : IfSome agent.next (λ t. t ≤ plan.horizon) = all-at (IsDue plan) s.agents stamp.agent agent at ok.agents in
    let le : stamp.time ≤ plan.horizon = rw next at by in
    let w : work_of plan agent ≡ suc plan.horizon - stamp.time = rw next refl in
    let x = later stamp.time d.act.wait in
    let rises : stamp.time < x = later-rises stamp.time d.act.wait one (omega (arith, ok.horizon)) in
    let new = due-falls plan stamp.time x d.act.regs (nat_le x plan.horizon) rises le in (
      set-falls plan s.agents stamp.agent agent _ at (rw w new),
      record {
        horizon = ok.horizon;
        agents = all-set (IsDue plan) s.agents stamp.agent _ (due-due plan x) ok.agents;
        count = length-set s.agents stamp.agent _ ∙ ok.count;
      },
    )

-- a turn lowers the work, and keeps what each state of a run keeps
pub turn-falls : (plan : Plan) (s : State) (m : Moved) → sequential_turn plan s ≡ Some m → IsTimely plan s → (work plan m.state < work plan s) × IsTimely plan m.state
turn-falls plan s m h ok =
    let k = took plan s m h in
    subst (λ (q : Moved). (work plan q.state < work plan s) × IsTimely plan q.state) k.gives
    (falls plan s k.stamp k.done k.agent ok (deed-waits (scene_of plan s k.stamp k.row k.agent) k.done k.deed_is) k.agent_is k.time)

turns-stop : (n : ℕ) (plan : Plan) (s : State) → sequential_turn plan s ≡ None → turns n plan s ≡ []
turns-stop zero plan s h = refl
turns-stop (suc n) plan s h = ap (and_then_on (turns n plan)) h

turns-go : (n : ℕ) (plan : Plan) (s : State) (m : Moved) → sequential_turn plan s ≡ Some m → turns (suc n) plan s ≡ m.entry ∷ turns n plan m.state
turns-go n plan s m h = ap (and_then_on (turns n plan)) h

-- any number of turns that is enough gives the same entries
pub turns-enough : (n m : ℕ) (plan : Plan) (s : State) → IsTimely plan s → work plan s ≤ n → work plan s ≤ m → turns n plan s ≡ turns m plan s
turns-enough zero m plan s ok a b = elim (option-cases (sequential_turn plan s)) [
  | inl h ↦ turns-stop zero plan s h ∙ sym (turns-stop m plan s h)
  | inr q ↦ absurd (omega (arith, (turn-falls plan s q.0 q.1 ok).0))
]
turns-enough (suc n) zero plan s ok a b = elim (option-cases (sequential_turn plan s)) [
  | inl h ↦ turns-stop (suc n) plan s h
  | inr q ↦ absurd (omega (arith, (turn-falls plan s q.0 q.1 ok).0))
]
turns-enough (suc n) (suc m) plan s ok a b = elim (option-cases (sequential_turn plan s)) [
  | inl h ↦ turns-stop (suc n) plan s h ∙ sym (turns-stop (suc m) plan s h)
  | inr q ↦
      let f = turn-falls plan s q.0 q.1 ok in
      turns-go n plan s q.0 q.1
      ∙ ap (λ es. q.0.entry ∷ es) (turns-enough n m plan q.0.state f.1 (omega (arith, f.0)) (omega (arith, f.0)))
      ∙ sym (turns-go m plan s q.0 q.1)
]

-- nothing is left where there is no next turn
pub rest-done : (plan : Plan) (s : State) → sequential_turn plan s ≡ None → rest plan s ≡ []
unfolding rest
rest-done plan s h = turns-stop (work plan s) plan s h

-- else the entry of the next turn, and what is left after it
pub rest-step : (plan : Plan) (s : State) (m : Moved) → sequential_turn plan s ≡ Some m → IsTimely plan s → rest plan s ≡ m.entry ∷ rest plan m.state
unfolding rest
rest-step plan s m h ok =
    let f = turn-falls plan s m h ok in
    turns-enough (work plan s) (suc (work plan s)) plan s ok (omega arith) (omega arith)
    ∙ turns-go (work plan s) plan s m h
    ∙ ap (λ es. m.entry ∷ es) (turns-enough (work plan s) (work plan m.state) plan m.state f.1 (omega (arith, f.0)) (omega arith))

-- the least stamp is due by the horizon
pub least-due : (plan : Plan) (s : State) (st : Stamp) → IsTimely plan s → least_stamp 0 s.agents ≡ Some st → st.time ≤ plan.horizon
least-due plan s st ok least =
    let (i, a, n, g, t) = least-found 0 s.agents st least in
    let by : IfSome a.next (λ t. t ≤ plan.horizon) = all-at (IsDue plan) s.agents i a g ok.agents in
    rw t at by
