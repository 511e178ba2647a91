-- The least of the agents' next stamps, and the set of them after a step.
use Rattle.std.proofs.Common.{◌≡◌, ℕ, zero, suc, ◌+◌, ◌<◌, ◌⊎◌, inl, inr, List, [], ◌∷◌, length, take, get_or, set, Bool, true, false, Option, Some, None, IfSome, refl, sym, ap, ◌∙◌, subst, arith}
use Rattle.std.specs.Prelude.{slice_get, option_and_then, ◌==◌, ◌&&◌, ◌||◌}
use Rattle.std.specs.List.{AllByRecursion, list_any}
use Rattle.std.specs.BTreeMap.{is_at}
use Rattle.std.specs.BTreeSet.{BTreeSet}
use Rattle.std.specs.Ordering.{is_gt}
use Rattle.std.proofs.lemmas.Option.{same_Some, slice_get-get_or}
use Rattle.std.proofs.lemmas.Bool.{false≢true}
use Rattle.std.proofs.lemmas.Bool.Decides.{nat_tests}
use Rattle.pm_base.specs.Stamps.{stamp_lt}
use Rattle.pm_base.specs.declared.stamp.Stamp.{Stamp}
use Rattle.pm_base.proofs.Orders.{stamp_lt-same}
use Rattle.pm_model.proofs.Choices.{option-cases}
use Rattle.pm_model.proofs.Retired.{least-none}
use Rattle.pm_model.proofs.Rises.{due-there, get-set-other, least-lowest}
use Rattle.pm_model.proofs.Turns.{least-found}
use Rattle.pm_model.specs.declared.AgentState.{AgentState}
use Rattle.pm_model.specs.Runs.{least_stamp, IsRetired}
use Rattle.pm_seq.specs.Queues.{stamp_cmp, has, at_time, next_at, without, with_next, IsQueue}

-- comparing tells whether two stamps are one
pub same-is : (a b : Stamp) → is_at (stamp_cmp a) b ≡ (a.time == b.time && a.agent == b.agent)
same-is a b = grind (arith, nat_tests)

-- and which comes first
pub not-greater : (a b : Stamp) → is_gt (stamp_cmp a b) ≡ false → stamp_lt b a ≡ false
not-greater a b h = grind (arith, nat_tests, h)

at-Some : (t : ℕ) (o : Option ℕ) → at_time t o ≡ true → o ≡ Some t
at-Some t None h = absurd (false≢true h)
at-Some t (Some u) h = ap Some (grind (arith, nat_tests, h))

Some-at : (t : ℕ) (o : Option ℕ) → o ≡ Some t → at_time t o ≡ true
Some-at t None h = absurd (cc h)
Some-at t (Some u) h = let e : u ≡ t = same_Some _ _ h in grind (arith, nat_tests, e)

-- the agent whose next step that is
next-is : (agents : List AgentState) (k t : ℕ) → next_at agents k t ≡ true → (a : AgentState) × (slice_get agents k ≡ Some a) × (a.next ≡ Some t)
next-is agents k t h = elim (option-cases (slice_get agents k)) [
  | inl e ↦ absurd (false≢true (sym (ap (λ o. at_time t (option_and_then (λ (a : AgentState). a.next) o)) e) ∙ h))
  | inr q ↦ (q.0, q.1, at-Some t q.0.next (sym (ap (λ o. at_time t (option_and_then (λ (a : AgentState). a.next) o)) q.1) ∙ h))
]

is-next : (agents : List AgentState) (k t : ℕ) (a : AgentState) → slice_get agents k ≡ Some a → a.next ≡ Some t → next_at agents k t ≡ true
is-next agents k t a g e = ap (λ o. at_time t (option_and_then (λ (a : AgentState). a.next) o)) g ∙ Some-at t a.next e

-- the agent of the least stamp acts next at its time
least-next : (agents : List AgentState) (st : Stamp) → least_stamp 0 agents ≡ Some st → next_at agents st.agent st.time ≡ true
least-next agents st least =
    let (i, a, n, g, t) = least-found 0 agents st least in
    let ie : i ≡ st.agent = omega (arith, n) in
    subst (λ k. next_at agents k st.time ≡ true) ie (is-next agents i st.time a g t)

-- where no agent acts next there is no least stamp
pub queue-none : (agents : List AgentState) → ((st : Stamp) → next_at agents st.agent st.time ≡ false) → least_stamp 0 agents ≡ None
queue-none agents none = elim (option-cases (least_stamp 0 agents)) [
  | inl e ↦ e
  | inr q ↦ absurd (false≢true (sym (none q.0) ∙ least-next agents q.0 q.1))
]

-- a stamp of an agent's next step that none comes before is the least
pub queue-first : (agents : List AgentState) (st : Stamp) → next_at agents st.agent st.time ≡ true
    → ((q : Stamp) → next_at agents q.agent q.time ≡ true → stamp_lt q st ≡ false) → least_stamp 0 agents ≡ Some st
queue-first agents st is first =
    let (a, g, t) = next-is agents st.agent st.time is in
    elim (option-cases (least_stamp 0 agents)) [
      | inl none ↦ absurd (due-there agents st.agent a st.time g t (least-none 0 agents none))
      | inr q ↦
          let after : stamp_lt q.0 st ≡ false = first q.0 (least-next agents q.0 q.1) in
          let before : stamp_lt st q.0 ≡ false =
          subst (λ k. stamp_lt (record { time = st.time; agent = k }) q.0 ≡ false) (omega arith) (least-lowest 0 agents q.0 st.agent a st.time q.1 g t) in
          q.1 ∙ ap Some (stamp_lt-same q.0 st after before)
    ]

-- an empty set has no stamp
has-none : (ks : List Stamp) (P : Stamp → Bool) → length ks ≡ 0 → list_any P ks ≡ false
has-none [] P h = refl
has-none (k ∷ ks) P h = absurd (omega (arith, h))

pub least-empty : (agents : List AgentState) (due : BTreeSet Stamp) → IsQueue agents due → length due.keys ≡ 0 → least_stamp 0 agents ≡ None
unfolding IsQueue
least-empty agents due queue none = queue-none agents (λ st. sym (queue st) ∙ has-none due.keys (is_at (stamp_cmp st)) none)

pub least-first : (agents : List AgentState) (due : BTreeSet Stamp) (st : Stamp) → IsQueue agents due → has due st ≡ true
    → ((q : Stamp) → has due q ≡ true → is_gt (stamp_cmp st q) ≡ false) → least_stamp 0 agents ≡ Some st
unfolding IsQueue
least-first agents due st queue is first =
    queue-first agents st (sym (queue st) ∙ is) (λ q h. not-greater st q (first q (queue q ∙ h)))

-- a set with the same stamps
pub queue-same : (agents : List AgentState) (due new : BTreeSet Stamp) → new.keys ≡ due.keys → IsQueue agents due → IsQueue agents new
unfolding IsQueue
queue-same agents due new same queue st = ap (list_any (is_at (stamp_cmp st))) same ∙ queue st

-- the next step of the agent that was replaced
set-here : (agents : List AgentState) (k t : ℕ) (a new : AgentState) → slice_get agents k ≡ Some a → next_at (set agents k new) k t ≡ at_time t new.next
set-here [] k t a new g = absurd (cc g)
set-here (b ∷ bs) zero t a new g = refl
set-here (b ∷ bs) (suc k) t a new g = set-here bs k t a new g

set-there : (agents : List AgentState) (k j t : ℕ) (new : AgentState) → (k ≡ j → ⊥) → next_at (set agents k new) j t ≡ next_at agents j t
set-there agents k j t new ne = ap (λ o. at_time t (option_and_then (λ (a : AgentState). a.next) o)) (get-set-other agents k j new ne)

same-or-not : (a b : ℕ) (t : Bool) → (a == b) ≡ t → (a ≡ b) ⊎ (a ≡ b → ⊥)
same-or-not a b true e = inl (grind (arith, nat_tests, e))
same-or-not a b false e = inr (λ h. grind (arith, nat_tests, e, h))

-- at the stamp's own agent, where its next step comes later
moves-here : (st q : Stamp) (next : Option ℕ) (had : Stamp → Bool) → st.agent ≡ q.agent → IfSome next (λ t. st.time < t)
    → had q ≡ (st.time == q.time) → without st (with_next st.agent next had) q ≡ at_time q.time next
moves-here st q None had e later h = grind (arith, nat_tests, same-is, e, h)
moves-here st q (Some t) had e later h = grind (arith, nat_tests, same-is, e, h, later)

-- at any other agent
moves-there : (st q : Stamp) (next : Option ℕ) (had : Stamp → Bool) → (st.agent ≡ q.agent → ⊥) → without st (with_next st.agent next had) q ≡ had q
moves-there st q None had ne = grind (arith, nat_tests, same-is, ne)
moves-there st q (Some t) had ne = grind (arith, nat_tests, same-is, ne)

-- the time at which that agent acts next
own-time : (agents : List AgentState) (k t u : ℕ) (a : AgentState) → slice_get agents k ≡ Some a → a.next ≡ Some t → next_at agents k u ≡ (t == u)
own-time agents k t u a g e = ap (λ o. at_time u (option_and_then (λ (a : AgentState). a.next) o)) g ∙ ap (at_time u) e

-- the set after a step
pub queue-moves : (agents : List AgentState) (due moved : BTreeSet Stamp) (st : Stamp) (a new : AgentState) → IsQueue agents due
    → slice_get agents st.agent ≡ Some a → a.next ≡ Some st.time → IfSome new.next (λ t. st.time < t)
    → ((q : Stamp) → has moved q ≡ without st (with_next st.agent new.next (has due)) q)
    → IsQueue (set agents st.agent new) moved
unfolding IsQueue
queue-moves agents due moved st a new queue g t later moves q = elim (same-or-not st.agent q.agent (st.agent == q.agent) refl) [
  | inl e ↦
      let had : has due q ≡ (st.time == q.time) =
      queue q ∙ ap (λ k. next_at agents k q.time) (sym e) ∙ own-time agents st.agent st.time q.time a g t in
      moves q ∙ moves-here st q new.next (has due) e later had
      ∙ sym (ap (λ k. next_at (set agents st.agent new) k q.time) (sym e) ∙ set-here agents st.agent q.time a new g)
  | inr ne ↦ moves q ∙ moves-there st q new.next (has due) ne ∙ queue q ∙ sym (set-there agents st.agent q.agent q.time new ne)
]

-- the first agents, one more
past-none : (agents : List AgentState) (i t : ℕ) → next_at (take i agents) i t ≡ false
past-none [] zero t = refl
past-none [] (suc i) t = refl
past-none (b ∷ bs) zero t = refl
past-none (b ∷ bs) (suc i) t = past-none bs i t

take-here : (agents : List AgentState) (i t : ℕ) (a : AgentState) → slice_get agents i ≡ Some a → next_at (take (suc i) agents) i t ≡ at_time t a.next
take-here [] i t a g = absurd (cc g)
take-here (b ∷ bs) zero t a g = ap (λ (x : AgentState). at_time t x.next) (same_Some _ _ g)
take-here (b ∷ bs) (suc i) t a g = take-here bs i t a g

take-there : (agents : List AgentState) (i k t : ℕ) → (i ≡ k → ⊥) → next_at (take (suc i) agents) k t ≡ next_at (take i agents) k t
take-there [] zero k t ne = refl
take-there [] (suc i) k t ne = refl
take-there (b ∷ bs) zero zero t ne = absurd (ne refl)
take-there (b ∷ bs) zero (suc k) t ne = refl
take-there (b ∷ bs) (suc i) zero t ne = refl
take-there (b ∷ bs) (suc i) (suc k) t ne = take-there bs i k t (λ e. ne (ap suc e))

enters-here : (agent : ℕ) (q : Stamp) (next : Option ℕ) (had : Stamp → Bool) → agent ≡ q.agent → had q ≡ false → with_next agent next had q ≡ at_time q.time next
enters-here agent q None had e h = h
enters-here agent q (Some t) had e h = grind (arith, nat_tests, same-is, e, h)

enters-there : (agent : ℕ) (q : Stamp) (next : Option ℕ) (had : Stamp → Bool) → (agent ≡ q.agent → ⊥) → with_next agent next had q ≡ had q
enters-there agent q None had ne = refl
enters-there agent q (Some t) had ne = grind (arith, nat_tests, same-is, ne)

-- the set of the first agents and one more
queue-suc : (agents : List AgentState) (due more : BTreeSet Stamp) (i : ℕ) (a : AgentState) → IsQueue (take i agents) due
    → slice_get agents i ≡ Some a → ((q : Stamp) → has more q ≡ with_next i a.next (has due) q) → IsQueue (take (suc i) agents) more
unfolding IsQueue
queue-suc agents due more i a queue g enters q = elim (same-or-not i q.agent (i == q.agent) refl) [
  | inl e ↦
      let none : has due q ≡ false = queue q ∙ ap (λ k. next_at (take i agents) k q.time) (sym e) ∙ past-none agents i q.time in
      enters q ∙ enters-here i q a.next (has due) e none
      ∙ sym (ap (λ k. next_at (take (suc i) agents) k q.time) (sym e) ∙ take-here agents i q.time a g)
  | inr ne ↦ enters q ∙ enters-there i q a.next (has due) ne ∙ queue q ∙ sym (take-there agents i q.agent q.time ne)
]

pub queue-more : (agents : List AgentState) (due more : BTreeSet Stamp) (i : ℕ) (a : AgentState) → IsQueue (take i agents) due → i < length agents
    → a ≡ get_or agents i a → ((q : Stamp) → has more q ≡ with_next i a.next (has due) q) → IsQueue (take (i + 1) agents) more
queue-more agents due more i a queue lt is enters =
    let e : suc i ≡ i + 1 = omega arith in
    subst (λ n. IsQueue (take n agents) more) e (queue-suc agents due more i a queue (slice_get-get_or agents i a lt ∙ ap Some (sym is)) enters)

has-first : (k : Stamp) (ks : List Stamp) → list_any (is_at (stamp_cmp k)) (k ∷ ks) ≡ true
has-first k ks =
    let itself : (k.time == k.time && k.agent == k.agent) ≡ true = grind (arith, nat_tests) in
    ap (λ b. b || list_any (is_at (stamp_cmp k)) ks) (same-is k k ∙ itself)

-- an agent that is retired acts next at no time
retired-not : (agents : List AgentState) (k t : ℕ) (b : Bool) → AllByRecursion IsRetired agents → next_at agents k t ≡ b → b ≡ false
retired-not agents k t true all h = let (a, g, e) = next-is agents k t h in absurd (due-there agents k a t g e all)
retired-not agents k t false all h = refl

-- the queue is empty exactly where all agents are retired
pub empty-retired : (agents : List AgentState) (due : BTreeSet Stamp) → IsQueue agents due → length due.keys ≡ 0 → AllByRecursion IsRetired agents
empty-retired agents due queue none = least-none 0 agents (least-empty agents due queue none)

keys-none : (ks : List Stamp) → ((st : Stamp) → list_any (is_at (stamp_cmp st)) ks ≡ false) → length ks ≡ 0
keys-none [] none = refl
keys-none (k ∷ ks) none = absurd (false≢true (sym (none k) ∙ has-first k ks))

pub retired-empty : (agents : List AgentState) (due : BTreeSet Stamp) → IsQueue agents due → AllByRecursion IsRetired agents → length due.keys ≡ 0
unfolding IsQueue
retired-empty agents due queue all = keys-none due.keys (λ st. retired-not agents st.agent st.time (has due st) all (sym (queue st)))

pub queue-empty : (due : BTreeSet Stamp) → length due.keys ≡ 0 → IsQueue [] due
unfolding IsQueue
queue-empty due h st = has-none due.keys (is_at (stamp_cmp st)) h
