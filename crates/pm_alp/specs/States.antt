-- An agent as it is held.
use Rattle.std.specs.Prelude.{◌≡◌, ℕ, ◌+◌, ◌<◌, ◌≤◌, ◌^◌, nat_le, Bool, true, false, if◌then◌else◌}
use Rattle.std.specs.Prelude.{List, [], ◌∷◌, ◌++◌, take, IfSome, Option, Some, None}
use Rattle.std.specs.List.{AllByRecursion}
use Rattle.pm_base.specs.declared.stamp.Stamp.{Stamp}
use Rattle.pm_base.specs.declared.value.Hit.{Hit}
use Rattle.pm_base.specs.declared.value.Query.{Query}
use Rattle.pm_message.specs.declared.Message.{Message}
use Rattle.pm_message.specs.declared.Message.TheVariants as message
use Rattle.pm_saved.specs.Senses.{answers}
use Rattle.pm_saved.specs.Spots.{Spot, spot_at}
use Rattle.pm_saved.specs.declared.kept.KeptSense.{KeptSense}
use Rattle.pm_saved.specs.declared.kept.KeptStep.{KeptStep}
use Rattle.pm_saved.specs.declared.spot.Spot.{Spot as Place}
use Rattle.pm_alp.specs.Agents.{Actor, Rule, Sends, asking, step_of}
use Rattle.pm_alp.specs.declared.agent.Agent.{Agent}
use Rattle.pm_alp.specs.declared.agent.Awaited.{Awaited}
use Rattle.pm_alp.specs.declared.parts.AlpParts.{AlpParts}
use Rattle.pm_alp.specs.declared.state.State.{State}

-- what stays as it is of an agent's process: the agent's number, the last time at which it may act, and its rule
pub record Fixed : Type 0 where
  pub number : ℕ
  pub horizon : ℕ
  pub rule : Rule

-- what stays as it is of these parts
abbrev pub fixed_of : AlpParts → Fixed
fixed_of p = record {
  number = p.agent;
  horizon = p.horizon;
  rule = record { program = p.program.now; classes = p.layout.now.classes };
}

-- what such an agent knows of itself
abbrev pub actor : Fixed → Actor
actor f = record { agent = f.number; horizon = f.horizon; acts = step_of f.rule }

-- what an agent of these parts knows of itself
abbrev pub actor_of : AlpParts → Actor
actor_of p = actor (fixed_of p)

-- the agent of a state
abbrev pub agent_of : State → Agent
agent_of s = record { base = s.saved.base; steps = s.saved.steps; awaited = s.awaited; seq = s.seq }

-- the call that an agent awaits under its number of this seq, where the time is within the horizon
abbrev pub awaited_at : ℕ → ℕ → ℕ → ℕ → Option Awaited
awaited_at agent horizon seq time =
    if nat_le time horizon
    then Some (record { num = record { agent = agent; seq = seq }; stamp = record { time = time; agent = agent } })
    else None

-- the moments of the kept steps are within 63 bits
abbrev pub AreTimely : List KeptStep → Type 0
AreTimely steps = AllByRecursion (λ (k : KeptStep). k.stamp.time < 2 ^ 63) steps

-- the senses of the last of these steps, these ones where there is none
abbrev pub last_senses : List KeptSense → List KeptStep → List KeptSense
last_senses xs [] = xs
last_senses xs (s ∷ ss) = last_senses s.senses ss

-- these are the answers of the first senses of the last step, where there is a step
abbrev pub AreTold : List KeptStep → List (List Hit) → Type 0
AreTold [] told = Unit {0}
AreTold (s ∷ ss) told = (rest : List (List Hit)) × (answers (last_senses s.senses ss) ≡ told ++ rest)

-- so many of these answers, where they are of the last step
abbrev pub told_before : Bool → ℕ → List (List Hit) → List (List Hit)
told_before false n told = []
told_before true n told = take n told

-- the moments that are kept and awaited are within 63 bits, no sense asked under a number that is still to come, and
-- the answers that stand beside the steps are those of the last one's first senses
pub record IsReady (s : State) : Type 0 where
  pub timely : AreTimely s.saved.steps
  pub soon : IfSome s.awaited (λ (w : Awaited). w.stamp.time < 2 ^ 63)
  pub fresh : s.saved.used ≤ s.seq
  pub told : AreTold s.saved.steps s.told

-- there is a sense at this place
abbrev pub IsThere : List KeptStep → Place → Type 0
IsThere steps at = (s : Spot) × (spot_at at steps ≡ Some s)

-- the step of a place, with this sense in the place of the one there
abbrev pub sensed : Spot → KeptSense → KeptStep
sensed s x = record s.here { senses = s.before ++ x ∷ s.later }

-- the place with this sense in the place of the one there
abbrev pub written_at : Spot → KeptSense → Spot
written_at s x = record s { here = sensed s x; sense = x }

-- the agent of this number after its last step, at this stamp, asked this, and the message
abbrev pub asked : ℕ → Stamp → Query → List KeptStep → KeptStep → Agent → Sends
asked n s q front last a = record {
  agent = record {
    base = a.base;
    steps = front ++ record last { senses = last.senses ++ asking n a.seq q ∷ [] } ∷ [];
    awaited = None;
    seq = a.seq + 1;
  };
  sent = message.Ask (record { agent = n; seq = a.seq }) s q ∷ [];
}

-- the agent has come to this and sent these messages, and used at most so many numbers for them
pub record HasMoved (n : ℕ) (r : Sends) (old new : State) (out out' : List Message) : Type 0 where
  pub agent : agent_of new ≡ r.agent
  pub sent : out' ≡ out ++ r.sent
  pub few : new.seq ≤ old.seq + n
  pub ready : IsReady new
