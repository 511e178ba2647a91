-- The stamps of the agents' next steps, as an ordered set.
use Rattle.std.specs.Prelude.{◌≡◌, ℕ, ◌==◌, Bool, true, false, cond, List, Option, Some, None, slice_get}
use Rattle.std.specs.Prelude.{option_and_then}
use Rattle.std.specs.declared.cmp.Ordering.{Ordering}
use Rattle.std.specs.Ordering.{nat_cmp, ordering_then}
use Rattle.std.specs.BTreeMap.{is_at}
use Rattle.std.specs.BTreeSet.{BTreeSet, contains}
use Rattle.pm_base.specs.declared.stamp.Stamp.{Stamp}
use Rattle.pm_plan.specs.declared.plan.Plan.{Plan}
use Rattle.pm_plan.specs.Limits.{IsWithinLimits}
use Rattle.pm_model.specs.declared.AgentState.{AgentState}
use Rattle.pm_model.specs.declared.State.{State}
use Rattle.pm_model.specs.Runs.{IsTimely}

-- what comparing two stamps answers
abbrev pub stamp_cmp : Stamp → Stamp → Ordering
stamp_cmp a b = ordering_then (nat_cmp a.time b.time) (nat_cmp a.agent b.agent)

-- the set has that stamp
abbrev pub has : BTreeSet Stamp → Stamp → Bool
has due st = contains stamp_cmp due st

-- whether it is that time
abbrev pub at_time : ℕ → Option ℕ → Bool
at_time t None = false
at_time t (Some u) = u == t

-- the agent of that number acts next at that time
abbrev pub next_at : List AgentState → ℕ → ℕ → Bool
next_at agents k t = at_time t (option_and_then (λ (a : AgentState). a.next) (slice_get agents k))

-- the set has exactly the stamps of the agents' next steps
unfoldable pub IsQueue : List AgentState → BTreeSet Stamp → Type 0
IsQueue agents due = (st : Stamp) → has due st ≡ next_at agents st.agent st.time

-- what is kept while a run goes on
pub record IsRunning (plan : Plan) (s : State) (due : BTreeSet Stamp) : Type 0 where
  pub limits : IsWithinLimits plan
  pub timely : IsTimely plan s
  pub queue : IsQueue s.agents due

-- what a set has without the stamp a
abbrev pub without : Stamp → (Stamp → Bool) → Stamp → Bool
without a had q = cond (is_at (stamp_cmp a) q) false (had q)

-- and with the stamp of that agent's next step, where it makes one
abbrev pub with_next : ℕ → Option ℕ → (Stamp → Bool) → Stamp → Bool
with_next agent None had q = had q
with_next agent (Some t) had q = cond (is_at (stamp_cmp (record { time = t; agent = agent })) q) true (had q)
