-- What a delivery at a communication process lowers, in the lowest run.
use Rattle.std.specs.Prelude.{ℕ, suc, ◌+◌, ◌*◌, ◌<◌, ◌≤◌, ◌≡◌, List, length}
use Rattle.pm_base.specs.declared.stamp.Stamp.{Stamp}
use Rattle.pm_base.specs.declared.value.Query.TheVariants as query
use Rattle.pm_message.specs.declared.Message.{Message}
use Rattle.pm_message.specs.declared.Message.TheVariants as message
use Rattle.pm_plan.specs.declared.plan.Plan.{Plan}
use Rattle.pm_routes.specs.declared.way.Way.TheVariants as way
use Rattle.pm_clp.specs.Clps.{ClpSends, ClpState, clp_after, way_of}
use Rattle.pm_sim.specs.Routings.{ForClp}
use Rattle.pm_sim.specs.Sims.{In, vars_of}
use Rattle.pm_sim.specs.Worlds.{Process, clps_of, home, hub_of, number, ports}
use Rattle.pm_sim.specs.Worlds.Process.{AtAgent, AtClp}
use Rattle.pm_calm.specs.Phases.{ClpAt, MailAt, Over, Phase, is_over}
use Rattle.pm_calm.specs.Phases.Phase.{Idle, Range, Single}
use Rattle.pm_cost.specs.Weights.{regs_weight, unread, weight, weights}

-- what the hits of the open range query may still cost at a process: as many deliveries as there are communication
-- processes, for each record that doesn't have its read
abbrev pub hits_left : Plan → Phase → ClpState → ℕ
hits_left p Idle x = 0
hits_left p (Single n v) x = 0
hits_left p (Range n i u) x = clps_of p * unread n x.records

-- what a process and what it sends may still cost
abbrev pub left_of : Plan → ℕ → Phase → ClpSends → ℕ
left_of p c ph r = weights p c r.sent + regs_weight p c r.clp.queries + hits_left p ph r.clp

-- no read and no write of a variable goes back to where it came from
abbrev pub Onwards : Process → Message → ClpState → Type 0
Onwards f (message.Put n z v g) x = (e : ℕ) → way_of v x ≡ way.Port e → f ≡ AtClp e → ⊥
Onwards f (message.Ask k z (query.One v)) x = (e : ℕ) → way_of v x ≡ way.Port e → f ≡ AtClp e → ⊥
Onwards f (message.Ask k z (query.Class j u)) x = Unit {0}
Onwards f (message.Wake k z) x = Unit {0}
Onwards f (message.Cut n z v) x = Unit {0}
Onwards f (message.Give g) x = Unit {0}
Onwards f (message.Finish k z) x = Unit {0}
Onwards f (message.Move v z r) x = Unit {0}
Onwards f (message.Grow k z u w) x = Unit {0}

-- what the message asks for an agent is for one of the plan
abbrev pub NamesAgent : Plan → Message → Type 0
NamesAgent p (message.Ask k z q) = k.agent < length p.agents
NamesAgent p (message.Give g) = g.num.agent < length p.agents
NamesAgent p (message.Wake k z) = Unit {0}
NamesAgent p (message.Put n z v g) = Unit {0}
NamesAgent p (message.Cut n z v) = Unit {0}
NamesAgent p (message.Finish k z) = Unit {0}
NamesAgent p (message.Move v z r) = Unit {0}
NamesAgent p (message.Grow k z u w) = Unit {0}

-- the process is a neighbour of communication process c in the tree, or an agent whose home that is
abbrev pub Neighbour : Plan → ℕ → Process → Type 0
Neighbour p c (AtClp d) = In d (ports p c)
Neighbour p c (AtAgent a) = home p a ≡ c

-- the message comes to communication process c in the state x from f, at moment s, in this phase, and isn't sent back
pub record ArrivesAt (p : Plan) (c : ℕ) (s : Stamp) (os : List Over) (ph : Phase) (f : Process) (m : Message)
    (x : ClpState) : Type 0 where
  pub inside : c < clps_of p
  pub neighbour : Neighbour p c f
  pub fits : ForClp (vars_of p) f m
  pub names : NamesAgent p m
  pub letter : MailAt p s (is_over os) ph (AtClp c) f m
  pub state : ClpAt p s (is_over os) ph x
  pub ports_are : x.routing.ports ≡ ports p c
  pub leads : (v e : ℕ) → way_of v x ≡ way.Port e → In e (ports p c)
  pub onwards : Onwards f m x

-- then the process and all that it sends may cost at least one delivery less than the message and the process before
abbrev pub DeliveriesCost : Plan → Type 0
DeliveriesCost p = (c : ℕ) (s : Stamp) (os : List Over) (ph : Phase) (f : Process) (m : Message) (x : ClpState)
    → ArrivesAt p c s os ph f m x
    → suc (left_of p c ph (clp_after (hub_of p c) (number p f) m x))
    ≤ weight p (AtClp c) f m + regs_weight p c x.queries + hits_left p ph x
