-- The stamps of a run rise.
use Rattle.std.proofs.Common.{◌≡◌, ℕ, zero, suc, ◌+◌, ◌<◌, ◌≤◌, ◌⊎◌, inl, inr, List, [], ◌∷◌, length, set, Bool, true, false, Option, Some, None, option_map, ℤ, refl, sym, ap, ◌∙◌, subst, arith, cond, nat_lt, nat_le}
use Rattle.std.specs.Prelude.{slice_get, ◌==◌}
use Rattle.std.specs.List.{AllByRecursion}
use Rattle.std.proofs.lemmas.Option.{same_Some}
use Rattle.std.proofs.lemmas.Bool.Decides.{nat_tests}
use Rattle.pm_base.specs.Stamps.{stamp_lt, IsBefore}
use Rattle.pm_base.specs.declared.rows.Entry.{Entry}
use Rattle.pm_base.specs.declared.stamp.Stamp.{Stamp}
use Rattle.pm_base.proofs.Orders.{stamp_lt-never_itself, stamp_lt-trans}
use Rattle.pm_plan.specs.declared.plan.Plan.{Plan}
use Rattle.pm_model.proofs.Choices.{option-cases}
use Rattle.pm_model.proofs.Deeds.{deed-waits}
use Rattle.pm_model.proofs.Retired.{least-none}
use Rattle.pm_model.proofs.Turns.{took, turn-falls, least-found, least-due, later-rises, all-at}
use Rattle.pm_model.specs.declared.AgentState.{AgentState}
use Rattle.pm_model.specs.declared.State.{State}
use Rattle.pm_model.specs.Entries.{IsInOrder, IsOfPlan, IsOwnTime}
use Rattle.pm_model.specs.Runs.{IsRetired, IsTimely, Moved, due, later, sooner, least_stamp, sequential_turn, scene_of, turns, and_then_on}

-- the sooner of two is not after the first
not-after : (x b st : Stamp) (t : Bool) → nat_lt b.time x.time ≡ t → cond t (Some b) (Some x) ≡ Some st → stamp_lt x st ≡ false
not-after x b st true e h = subst (λ (s : Stamp). stamp_lt x s ≡ false) (same_Some _ _ h) (grind (arith, nat_tests, e))
not-after x b st false e h = subst (λ (s : Stamp). stamp_lt x s ≡ false) (same_Some _ _ h) (stamp_lt-never_itself x)

sooner-left : (x : Stamp) (o : Option Stamp) (st : Stamp) → sooner (Some x) o ≡ Some st → stamp_lt x st ≡ false
sooner-left x None st h = subst (λ (s : Stamp). stamp_lt x s ≡ false) (same_Some _ _ h) (stamp_lt-never_itself x)
sooner-left x (Some b) st h = not-after x b st (nat_lt b.time x.time) refl h

-- nor after what is not before the second, where the first has a lesser agent
not-before : (x b st u : Stamp) (t : Bool) → nat_lt b.time x.time ≡ t → cond t (Some b) (Some x) ≡ Some st
    → stamp_lt u b ≡ false → x.agent < u.agent → stamp_lt u st ≡ false
not-before x b st u true e h ub lt = subst (λ (s : Stamp). stamp_lt u s ≡ false) (same_Some _ _ h) ub
not-before x b st u false e h ub lt = subst (λ (s : Stamp). stamp_lt u s ≡ false) (same_Some _ _ h) (grind (arith, nat_tests, e, ub, lt))

sooner-right : (k : ℕ) (next : Option ℕ) (b st u : Stamp) → sooner (option_map (λ t. record { time = t; agent = k }) next) (Some b) ≡ Some st
    → stamp_lt u b ≡ false → k < u.agent → stamp_lt u st ≡ false
sooner-right k None b st u h ub lt = subst (λ (s : Stamp). stamp_lt u s ≡ false) (same_Some _ _ h) ub
sooner-right k (Some t) b st u h ub lt = not-before (record { time = t; agent = k }) b st u (nat_lt b.time t) refl h ub lt

-- an agent that is due: not all are retired
pub due-there : (agents : List AgentState) (i : ℕ) (a : AgentState) (t : ℕ) → slice_get agents i ≡ Some a → a.next ≡ Some t → AllByRecursion IsRetired agents → ⊥
due-there agents i a t g e all = let none : a.next ≡ None = all-at IsRetired agents i a g all in cc (none, e)

-- no agent's next step comes before the least stamp
pub least-lowest : (k : ℕ) (agents : List AgentState) (st : Stamp) (i : ℕ) (a : AgentState) (t : ℕ) → least_stamp k agents ≡ Some st
    → slice_get agents i ≡ Some a → a.next ≡ Some t → stamp_lt (record { time = t; agent = k + i }) st ≡ false
least-lowest k [] st i a t h g e = absurd (cc h)
least-lowest k (a0 ∷ more) st zero a t h g e =
    let same : a0.next ≡ Some t = ap (λ (x : AgentState). x.next) (same_Some _ _ g) ∙ e in
    let h2 : sooner (Some (record { time = t; agent = k })) (least_stamp (k + 1) more) ≡ Some st =
    sym (ap (λ o. sooner (option_map (λ t. record { time = t; agent = k }) o) (least_stamp (k + 1) more)) same) ∙ h in
    subst (λ n. stamp_lt (record { time = t; agent = n }) st ≡ false) (omega arith)
    (sooner-left (record { time = t; agent = k }) (least_stamp (k + 1) more) st h2)
least-lowest k (a0 ∷ more) st (suc i) a t h g e = elim (option-cases (least_stamp (k + 1) more)) [
  | inl none ↦ absurd (due-there more i a t g e (least-none (k + 1) more none))
  | inr q ↦
      let low : stamp_lt (record { time = t; agent = k + 1 + i }) q.0 ≡ false = least-lowest (k + 1) more q.0 i a t q.1 g e in
      let low2 : stamp_lt (record { time = t; agent = k + suc i }) q.0 ≡ false =
      subst (λ n. stamp_lt (record { time = t; agent = n }) q.0 ≡ false) (omega arith) low in
      let h2 : sooner (option_map (λ t. record { time = t; agent = k }) a0.next) (Some q.0) ≡ Some st =
      sym (ap (sooner (option_map (λ t. record { time = t; agent = k }) a0.next)) q.1) ∙ h in
      sooner-right k a0.next q.0 st (record { time = t; agent = k + suc i }) h2 low2 (omega arith)
]

-- an element after another one was replaced
get-set-same : {X : Type 0} (xs : List X) (i : ℕ) (x y : X) → slice_get (set xs i x) i ≡ Some y → x ≡ y
get-set-same [] i x y h = absurd (cc h)
get-set-same (z ∷ xs) zero x y h = same_Some _ _ h
get-set-same (z ∷ xs) (suc i) x y h = get-set-same xs i x y h

pub get-set-other : {X : Type 0} (xs : List X) (i j : ℕ) (x : X) → (i ≡ j → ⊥) → slice_get (set xs i x) j ≡ slice_get xs j
get-set-other [] i j x ne = refl
get-set-other (z ∷ xs) zero zero x ne = absurd (ne refl)
get-set-other (z ∷ xs) zero (suc j) x ne = refl
get-set-other (z ∷ xs) (suc i) zero x ne = refl
get-set-other (z ∷ xs) (suc i) (suc j) x ne = get-set-other xs i j x (λ e. ne (ap suc e))

due-time : (plan : Plan) (x t : ℕ) (b : Bool) → cond b (Some x) None ≡ Some t → x ≡ t
due-time plan x t true h = same_Some _ _ h
due-time plan x t false h = absurd (cc h)

same-or-not : (a b : ℕ) (t : Bool) → (a == b) ≡ t → (a ≡ b) ⊎ (a ≡ b → ⊥)
same-or-not a b true e = inl (grind (arith, nat_tests, e))
same-or-not a b false e = inr (λ h. grind (arith, nat_tests, e, h))

-- the next stamp comes after that of the agent that has just acted
rises : (plan : Plan) (s : State) (st st2 : Stamp) (agent : AgentState) (regs : List ℤ) (w : ℕ) → IsTimely plan s → 1 ≤ w → least_stamp 0 s.agents ≡ Some st
    → least_stamp 0 (set s.agents st.agent (record { regs = regs; next = due plan (later st.time w) })) ≡ Some st2 → stamp_lt st st2 ≡ true
rises plan s st st2 agent regs w ok one least least2 =
    let new : AgentState = record { regs = regs; next = due plan (later st.time w) } in
    let (i, a, n, g, t) = least-found 0 (set s.agents st.agent new) st2 least2 in
    let ie : i ≡ st2.agent = omega (arith, n) in
    let by = least-due plan s st ok least in
    elim (same-or-not st.agent i (st.agent == i) refl) [
      | inl e ↦
          let got : slice_get (set s.agents st.agent new) st.agent ≡ Some a = ap (slice_get (set s.agents st.agent new)) e ∙ g in
          let same : new.next ≡ Some st2.time = ap (λ (x : AgentState). x.next) (get-set-same s.agents st.agent new a got) ∙ t in
          let time : later st.time w ≡ st2.time = due-time plan (later st.time w) st2.time (nat_le (later st.time w) plan.horizon) same in
          let up : st.time < later st.time w = later-rises st.time w one (omega (arith, ok.horizon, by)) in
          let up2 : st.time < st2.time = omega (arith, up, time) in
          grind (arith, nat_tests, up2)
      | inr ne ↦
          let got : slice_get s.agents i ≡ Some a = sym (get-set-other s.agents st.agent i new ne) ∙ g in
          let low2 : stamp_lt st2 st ≡ false =
          subst (λ k. stamp_lt (record { time = st2.time; agent = k }) st ≡ false) (sym n) (least-lowest 0 s.agents st i a st2.time least got t) in
          let apart : st.agent ≡ st2.agent → ⊥ = λ h. ne (h ∙ sym ie) in
          grind (arith, nat_tests, low2, apart)
    ]

turn-rises : (plan : Plan) (s : State) (m n : Moved) → IsTimely plan s → sequential_turn plan s ≡ Some m → sequential_turn plan m.state ≡ Some n
    → stamp_lt m.entry.stamp n.entry.stamp ≡ true
turn-rises plan s m n ok h h2 =
    let k = took plan s m h in
    let k2 = took plan m.state n h2 in
    let st : k.stamp ≡ m.entry.stamp = ap (λ (x : Moved). x.entry.stamp) k.gives in
    let st2 : k2.stamp ≡ n.entry.stamp = ap (λ (x : Moved). x.entry.stamp) k2.gives in
    let next : least_stamp 0 (set s.agents k.stamp.agent (record { regs = k.done.act.regs; next = due plan (later k.stamp.time k.done.act.wait) })) ≡ Some k2.stamp =
    ap (λ (x : Moved). least_stamp 0 x.state.agents) k.gives ∙ k2.least in
    let up : stamp_lt k.stamp k2.stamp ≡ true =
    rises plan s k.stamp k2.stamp k.agent k.done.act.regs k.done.act.wait ok (deed-waits (scene_of plan s k.stamp k.row k.agent) k.done k.deed_is) k.least next in
    subst (λ (x : Stamp). stamp_lt m.entry.stamp x ≡ true) st2 (subst (λ (x : Stamp). stamp_lt x k2.stamp ≡ true) st up)

-- the fact of a test
pub before-is : (a b : Stamp) → stamp_lt a b ≡ true → IsBefore a b
before-is a b h = elim (same-or-not a.time b.time (a.time == b.time) refl) [
  | inl e ↦ inr (e, grind (arith, nat_tests, h, e))
  | inr ne ↦ inl (grind (arith, nat_tests, h, ne))
]

-- the test of a fact
pub before-test : (a b : Stamp) → IsBefore a b → stamp_lt a b ≡ true
before-test a b (inl h) = grind (arith, nat_tests, h)
before-test a b (inr h) = grind (arith, nat_tests, h.0, h.1)

-- whatever the next turn is, it comes after b
abbrev NextIsAfter : Stamp → Plan → State → Type 0
NextIsAfter b plan s = (m : Moved) → sequential_turn plan s ≡ Some m → stamp_lt b m.entry.stamp ≡ true

all-after : (n : ℕ) (plan : Plan) (s : State) (b : Stamp) → IsTimely plan s → NextIsAfter b plan s
    → AllByRecursion (λ (l : Entry). IsBefore b l.stamp) (turns n plan s)
all-after zero plan s b ok after = tt
all-after (suc n) plan s b ok after = elim (option-cases (sequential_turn plan s)) [
  | inl h ↦ rw (ap (and_then_on (turns n plan)) h) tt
  | inr q ↦ rw (ap (and_then_on (turns n plan)) q.1) (
    before-is b q.0.entry.stamp (after q.0 q.1),
    all-after n plan q.0.state b (turn-falls plan s q.0 q.1 ok).1
        (λ m h. stamp_lt-trans b q.0.entry.stamp m.entry.stamp (after q.0 q.1) (turn-rises plan s q.0 m ok q.1 h)),
  )
]

pub turns-rise : (n : ℕ) (plan : Plan) (s : State) → IsTimely plan s → IsInOrder (turns n plan s)
turns-rise zero plan s ok = tt
turns-rise (suc n) plan s ok = elim (option-cases (sequential_turn plan s)) [
  | inl h ↦ rw (ap (and_then_on (turns n plan)) h) tt
  | inr q ↦
      let ok2 = (turn-falls plan s q.0 q.1 ok).1 in
      rw (ap (and_then_on (turns n plan)) q.1)
      (all-after n plan q.0.state q.0.entry.stamp ok2 (λ m h. turn-rises plan s q.0 m ok q.1 h), turns-rise n plan q.0.state ok2)
]

-- the agent of a turn is that of its stamp, at its own time
pub own-time : (plan : Plan) (s : State) (m : Moved) → sequential_turn plan s ≡ Some m → IsOwnTime plan s m.entry.stamp
own-time plan s m h =
    let k = took plan s m h in
    subst (λ (x : Moved). IsOwnTime plan s x.entry.stamp) k.gives
    (record { row = k.row; agent = k.agent; acts = k.row_is; was = k.agent_is; at = k.time })

of-plan : (plan : Plan) (s : State) (m : Moved) → IsTimely plan s → sequential_turn plan s ≡ Some m → IsOfPlan plan m.entry
of-plan plan s m ok h =
    let k = took plan s m h in
    subst (λ (x : Moved). IsOfPlan plan x.entry) k.gives
    (record { row = k.row; acts = k.row_is; time = least-due plan s k.stamp ok k.least })

pub turns-of-plan : (n : ℕ) (plan : Plan) (s : State) → IsTimely plan s → AllByRecursion (IsOfPlan plan) (turns n plan s)
turns-of-plan zero plan s ok = tt
turns-of-plan (suc n) plan s ok = elim (option-cases (sequential_turn plan s)) [
  | inl h ↦ rw (ap (and_then_on (turns n plan)) h) tt
  | inr q ↦ rw (ap (and_then_on (turns n plan)) q.1)
      (of-plan plan s q.0 ok q.1, turns-of-plan n plan q.0.state (turn-falls plan s q.0 q.1 ok).1)
]

pub turns-few : (n : ℕ) (plan : Plan) (s : State) → length (turns n plan s) ≤ n
turns-few zero plan s = omega arith
turns-few (suc n) plan s = elim (option-cases (sequential_turn plan s)) [
  | inl h ↦ rw (ap (and_then_on (turns n plan)) h) (omega arith)
  | inr q ↦ let few = turns-few n plan q.0.state in rw (ap (and_then_on (turns n plan)) q.1) (omega (arith, few))
]
