-- Who waits has something on its way: awaited Wakes, steps that haven't acted, and CLPs that wait for a port.
use Rattle.pm_queries.specs.declared.registered.Registered.{Registered}
use Rattle.std.specs.Prelude.{List, None, Option, Some, [], false, get_or, length, true, ℕ, ◌++◌, ◌+◌, ◌<◌, ◌∷◌, ◌≡◌, ◌≤◌, ◌⊎◌}
use Rattle.pm_base.specs.declared.rows.GiveRow.{GiveRow}
use Rattle.pm_base.specs.declared.run.Event.{Event}
use Rattle.pm_base.specs.declared.stamp.Stamp.{Stamp}
use Rattle.pm_base.specs.declared.value.Query.{Query}
use Rattle.pm_message.specs.Messages.{stamp_of}
use Rattle.pm_message.specs.declared.Message.{Message}
use Rattle.pm_plan.specs.declared.plan.Plan.{Plan}
use Rattle.pm_model.specs.declared.State.{State}
use Rattle.pm_saved.specs.declared.kept.KeptAct.{KeptAct}
use Rattle.pm_saved.specs.declared.kept.KeptSense.{KeptSense}
use Rattle.pm_saved.specs.declared.kept.KeptStep.{KeptStep}
use Rattle.pm_alp.specs.declared.agent.Agent.{Agent}
use Rattle.pm_alp.specs.declared.agent.Awaited.{Awaited}
use Rattle.pm_sim.specs.Bounds.{between}
use Rattle.pm_sim.specs.Looks.{agent_of, clp_of, messages_of}
use Rattle.pm_sim.specs.Routings.{Goes, Wait}
use Rattle.pm_sim.specs.Sims.{Each, In, no_turn, num_of, within}
use Rattle.pm_sim.specs.Worlds.{World, after_events, clps_of, first_world, is_legal_run, mail}
use Rattle.pm_sim.specs.Worlds.Process.{AtAgent, AtClp}
use Rattle.pm_message.specs.declared.Message.TheVariants as message
use Rattle.pm_base.specs.declared.value.Query.TheVariants as query

-- the awaited Wake stands at the end, and no other message there has its number
pub record Last (x : Awaited) (ms : List Message) : Type 0 where
  pub pre : List Message
  pub is : ms ≡ pre ++ message.Wake x.num x.stamp ∷ []
  pub others : (m : Message) → In m pre → num_of m ≡ x.num → ⊥

-- the next time behind a step, where it has acted
abbrev pub after_act : ℕ → Stamp → Option KeptAct → Option ℕ
after_act h s None = None
after_act h s (Some a) = within h (s.time + a.wait)

-- the next time behind these steps
abbrev pub next_after : ℕ → Option ℕ → List KeptStep → Option ℕ
next_after h next [] = next
next_after h next (s ∷ ss) = next_after h (after_act h s.stamp s.act) ss

-- all these steps have acted
abbrev pub AllActed : List KeptStep → Type 0
AllActed ss = Each (λ (s : KeptStep). (a : KeptAct) × (s.act ≡ Some a)) ss

-- a step that hasn't acted is the last, and its last sense is open
pub record LastStep (ss : List KeptStep) (s : KeptStep) : Type 0 where
  pub front : List KeptStep
  pub is : ss ≡ front ++ s ∷ []
  pub acted : AllActed front
  pub senses : List KeptSense
  pub sense : KeptSense
  pub last : s.senses ≡ senses ++ sense ∷ []
  pub done : Each (λ (x : KeptSense). x.complete ≡ true) senses
  pub is_open : sense.complete ≡ false

-- what an open sense waits for: its Ask, or a hit of it with a turn; for a class query, its end
abbrev pub Coming : Plan → World → Stamp → KeptSense → Query → Type 0
Coming p w s x (query.One v) = (x.hits ≡ []) × (In (message.Ask x.num s (query.One v)) (messages_of w)
    ⊎ ((g : GiveRow) × In (message.Give g) (messages_of w) × (g.num ≡ x.num) × (g.var ≡ v) × (1 ≤ g.turn)))
Coming p w s x (query.Class k u) = Wait p (λ c. (clp_of w c).queries) (mail w.links) x.num

-- a step that hasn't acted: its agent awaits no Wake, what it waits for is on its way, and so is a message of its stamp
pub record Stuck (p : Plan) (w : World) (a : Agent) (s : KeptStep) : Type 0 where
  pub step : LastStep a.steps s
  pub none : a.awaited ≡ None
  pub coming : Coming p w s.stamp step.sense step.sense.query
  pub letter : (m : Message) × In m (messages_of w) × (stamp_of m ≡ s.stamp)

-- the whole part; q is the sequential state at the line
pub record Awaking (p : Plan) (q : State) (w : World) : Type 0 where
  -- an awaited Wake is the last message of its own link, and all kept steps have acted
  pub awaited : (a : ℕ) (x : Awaited) → a < length w.agents → (agent_of w a).awaited ≡ Some x
      → Last x (between (AtAgent a) (AtAgent a) w.links) × AllActed (agent_of w a).steps
  -- a step that hasn't acted is the last; its last sense is open, and what it waits for is on its way, with a message
  -- of the step's stamp
  pub stuck : (a : ℕ) (s : KeptStep)
      → a < length w.agents → In s (agent_of w a).steps → s.act ≡ None → Stuck p w (agent_of w a) s
  -- where a CLP waits for a port, the end is on its way from there
  pub waits : (c : ℕ) (r : Registered) (d : ℕ) → c < clps_of p
      → In r ((clp_of w c).queries) → In d r.waits → Goes (λ c. (clp_of w c).queries) (mail w.links) r.num d (AtClp c)
  -- with neither a Wake nor an open step the next time is past the horizon
  pub retired : (a : ℕ) → a < length w.agents → (agent_of w a).awaited ≡ None → AllActed (agent_of w a).steps
      → next_after p.horizon (get_or q.agents a no_turn).next (agent_of w a).steps ≡ None

-- so it is in each world of a legal run, for a sequential state at its line
abbrev pub WhoWaitsIsWoken : Plan → List Event → Type 0
WhoWaitsIsWoken p es =
    is_legal_run p (first_world p) es ≡ true → (q : State) × Awaking p q (after_events p (first_world p) es)
