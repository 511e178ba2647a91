-- The world of a plan as such a machine: process k is the communication process or the agent of that number.
use Rattle.std.specs.Prelude.{ℕ, ◌==◌, nat_lt, Bool, false, if◌then◌else◌, List, [], ◌∷◌, length, get_or, Option}
use Rattle.pm_alp.specs.Agents.{agent_after, agent_committed, no_agent}
use Rattle.pm_alp.specs.declared.agent.Agent.{Agent}
use Rattle.pm_base.specs.declared.stamp.Line.{Line}
use Rattle.pm_clp.specs.Clps.{ClpState, clp_after, clp_committed}
use Rattle.pm_clp.specs.Takes.{takes}
use Rattle.pm_core.specs.Links.{links}
use Rattle.pm_core.specs.Mails.{receiver}
use Rattle.pm_ends.specs.Numbers.{froms_to, has_number, tos_from}
use Rattle.pm_message.specs.declared.Message.{Message}
use Rattle.pm_plan.specs.declared.plan.Plan.{Plan}
use Rattle.pm_queries.specs.declared.registered.Sent.{Sent}
use Rattle.pm_sim.specs.Bounds.{between}
use Rattle.pm_sim.specs.Ready.{kept_back}
use Rattle.pm_sim.specs.Worlds.{Process, World, actor_of, commit, deliver, home, hub_of, no_clp, process}
use Rattle.pm_sim.specs.Worlds.Process.{AtAgent, AtClp}
use Rattle.pm_cell.specs.Machines.{Machine}

-- the state of a process: of a communication process, or of an agent
pub data State : Type 0 where
  OfClp : ClpState → State
  OfAgent : Agent → State

-- as that of a communication process
abbrev pub as_clp : State → ClpState
as_clp (OfClp c) = c
as_clp (OfAgent a) = no_clp

-- as that of an agent
abbrev pub as_agent : State → Agent
as_agent (OfClp c) = no_agent
as_agent (OfAgent a) = a

-- who sends to process k in a plan
abbrev pub senders_to : Plan → ℕ → List ℕ
senders_to p k = froms_to k (links p)

-- to whom process k sends in a plan
abbrev pub receivers_of : Plan → ℕ → List ℕ
receivers_of p k = tos_from k (links p)

-- of what a communication process sends, the messages to process a
abbrev pub sent_to : ℕ → List Sent → List Message
sent_to a [] = []
sent_to a (s ∷ ss) = if s.to == a then s.message ∷ sent_to a ss else sent_to a ss

-- of what the agent's process k with that home sends, the messages to process a
abbrev pub told_to : ℕ → ℕ → ℕ → List Message → List Message
told_to k home a [] = []
told_to k home a (m ∷ ms) = if receiver k home m == a then m ∷ told_to k home a ms else told_to k home a ms

module _ (p : Plan) where
  -- what a process becomes at a message from process number `from`
  abbrev pub acts : Process → State → ℕ → Message → State
  acts (AtClp c) s from m = OfClp (clp_after (hub_of p c) from m (as_clp s)).clp
  acts (AtAgent a) s from m = OfAgent (agent_after (actor_of p a) (as_agent s) m).agent

  -- what process number k then sends to process a
  abbrev pub all_sent : ℕ → Process → State → ℕ → Message → ℕ → List Message
  all_sent k (AtClp c) s from m a = sent_to a (clp_after (hub_of p c) from m (as_clp s)).sent
  all_sent k (AtAgent i) s from m a = told_to k (home p i) a (agent_after (actor_of p i) (as_agent s) m).sent

  -- what it sends over the link to process a: nothing where there is none, which no legal run comes to
  abbrev pub sent_over : ℕ → State → ℕ → Message → ℕ → List Message
  sent_over k s from m a =
      if has_number a (receivers_of p k) then all_sent k (process p k) s from m a else []

-- the state of a process of a world
abbrev pub state_at : World → Process → State
state_at w (AtClp c) = OfClp (get_or w.clps c no_clp)
state_at w (AtAgent a) = OfAgent (get_or w.agents a no_agent)

-- whether a world has it
abbrev pub is_there : World → Process → Bool
is_there w (AtClp c) = nat_lt c (length w.clps)
is_there w (AtAgent a) = nat_lt a (length w.agents)

-- the state after a Commit
abbrev pub commits_at : Line → Process → State → State
commits_at l (AtClp c) s = OfClp (clp_committed l (as_clp s))
commits_at l (AtAgent a) s = OfAgent (agent_committed l (as_agent s))

-- the window keeps an agent's awaited Wake back that isn't below it, and nothing else
abbrev pub holds_at : Option Line → Process → State → Message → Bool
holds_at window (AtClp c) s m = false
holds_at window (AtAgent a) s m = kept_back window (as_agent s).awaited m

-- a communication process takes what its test takes; an agent's process takes any message while few were delivered
abbrev pub takes_at : Plan → Process → ℕ → State → ℕ → Message → Bool
takes_at p (AtClp c) made s from m = takes (hub_of p c) made (as_clp s) from m
takes_at p (AtAgent a) made s from m = nat_lt made 20000000

-- the world of a plan as a machine
abbrev pub core : Plan → Machine World State
core p = record {
  act = λ k s from m. acts p (process p k) s from m;
  sends = λ k s from m a. sent_over p k s from m a;
  commits = λ l k s. commits_at l (process p k) s;
  holds = λ window k s m. holds_at window (process p k) s m;
  takes = λ k made s from m. takes_at p (process p k) made s from m;
  has = λ w k. is_there w (process p k);
  state = λ w k. state_at w (process p k);
  link = λ w to from. between (process p to) (process p from) w.links;
  deliver = λ w to from. deliver p w (process p to) (process p from);
  commit = λ w l. commit w l;
}
