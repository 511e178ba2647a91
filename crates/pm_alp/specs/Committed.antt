-- What is committed stays.
use Rattle.std.specs.Prelude.{◌≡◌, ℕ, ◌<◌, ◌≤◌, ◌^◌, true, false, ◌⊎◌}
use Rattle.std.specs.Prelude.{List, [], ◌∷◌, ◌++◌, map, IfSome, Option, Some, None}
use Rattle.std.proofs.Common.{inl, inr}
use Rattle.std.specs.List.{AllByRecursion}
use Rattle.pm_base.specs.Stamps.{is_below}
use Rattle.pm_base.specs.declared.rows.Entry.{Entry}
use Rattle.pm_base.specs.declared.stamp.Line.{Line}
use Rattle.pm_base.specs.declared.stamp.Stamp.{Stamp}
use Rattle.pm_message.specs.Messages.{stamp_of}
use Rattle.pm_message.specs.declared.Message.{Message}
use Rattle.pm_saved.specs.Steps.{hand_out}
use Rattle.pm_saved.specs.declared.kept.KeptAct.{KeptAct}
use Rattle.pm_saved.specs.declared.kept.KeptStep.{KeptStep}
use Rattle.pm_alp.specs.Agents.{Actor, agent_after, agent_committed}
use Rattle.pm_alp.specs.Views.{first_agent}
use Rattle.pm_alp.specs.States.{Fixed}
use Rattle.pm_alp.specs.declared.agent.Agent.{Agent}
use Rattle.pm_alp.specs.declared.agent.Awaited.{Awaited}

-- a moment of the agent of this number
pub record IsOwn (n : ℕ) (s : Stamp) : Type 0 where
  pub agent : s.agent ≡ n
  pub small : s.time < 2 ^ 64

-- a kept step of the agent of this number: its moment is the agent's, and so is its entry's, where it has acted
pub record IsOwnStep (n : ℕ) (k : KeptStep) : Type 0 where
  pub moment : IsOwn n k.stamp
  pub entry : IfSome k.act (λ (a : KeptAct). a.entry.stamp ≡ k.stamp)

-- the moments of these kept steps, and then of the awaited call, are the agent's, and from a time on none is earlier
-- than the one before it
abbrev pub AreInOrder : ℕ → ℕ → List KeptStep → Option Awaited → Type 0
AreInOrder n t [] None = Unit {0}
AreInOrder n t [] (Some w) = IsOwn n w.stamp × (t ≤ w.stamp.time)
AreInOrder n t (k ∷ ks) w = IsOwnStep n k × ((t ≤ k.stamp.time) × AreInOrder n k.stamp.time ks w)

-- an agent of this number whose moments are in order
abbrev pub IsOrderly : ℕ → Agent → Type 0
IsOrderly n a = AreInOrder n 0 a.steps a.awaited

-- nothing that the agent has still to do is below the line: neither its awaited call nor a step that hasn't acted
pub record WaitsFrom (l : Line) (a : Agent) : Type 0 where
  pub awaited : IfSome a.awaited (λ (w : Awaited). is_below w.stamp l ≡ false)
  pub unended : AllByRecursion (λ (k : KeptStep). k.act ≡ None → is_below k.stamp l ≡ false) a.steps

-- the agent after a message was delivered to it, or a line was committed
abbrev pub happens : Actor → Agent → Message ⊎ Line → Agent
happens p a (inl m) = (agent_after p a m).agent
happens p a (inr l) = agent_committed l a

-- the moments of the messages that it then sends, or of the entries that it gives out
abbrev pub touches : Actor → Agent → Message ⊎ Line → List Stamp
touches p a (inl m) = map stamp_of (agent_after p a m).sent
touches p a (inr l) = map (λ (e : Entry). e.stamp) (hand_out l a.steps)

-- the same of all that happens, in order
abbrev pub all_touches : Actor → Agent → List (Message ⊎ Line) → List Stamp
all_touches p a [] = []
all_touches p a (x ∷ xs) = touches p a x ++ all_touches p (happens p a x) xs

-- a line gives out entries of moments below it, and whatever happens afterwards touches no such moment
pub record Stay (p : Actor) (a : Agent) (l : Line) (xs : List (Message ⊎ Line)) : Type 0 where
  pub given : AllByRecursion (λ (e : Entry). is_below e.stamp l ≡ true) (hand_out l a.steps)
  pub untouched : AllByRecursion (λ (s : Stamp). is_below s l ≡ false) (all_touches p (agent_committed l a) xs)

-- so it is where nothing that the agent has still to do is below the line
abbrev pub CommittedStepsStay : Type 0
CommittedStepsStay = (p : Actor) (a : Agent) (l : Line) (xs : List (Message ⊎ Line)) →
    IsOrderly p.agent a → WaitsFrom l a → Stay p a l xs

-- an agent's moments are in order at first
abbrev pub FirstInOrder : Type 0
FirstInOrder = (f : Fixed) (start : ℕ) → start < 2 ^ 64 → IsOrderly f.number (first_agent f start)

-- and stay so, whatever happens
abbrev pub OrderStays : Type 0
OrderStays = (p : Actor) (a : Agent) (x : Message ⊎ Line) → IsOrderly p.agent a → IsOrderly p.agent (happens p a x)
