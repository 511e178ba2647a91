-- Every message in a link is one that its receiver takes, and no number grows past its type.
use Rattle.std.specs.Prelude.{List, Option, Some, length, suc, true, zero, ℕ, ◌+◌, ◌<◌, ◌≡◌, ◌≤◌}
use Rattle.pm_base.specs.Layouts.{var_count}
use Rattle.pm_base.specs.declared.rows.Parts.{Parts}
use Rattle.pm_base.specs.declared.rows.ReadRow.{ReadRow}
use Rattle.pm_base.specs.declared.run.Event.{Event}
use Rattle.pm_message.specs.Messages.{stamp_of}
use Rattle.pm_message.specs.declared.Message.{Message}
use Rattle.pm_plan.specs.declared.plan.Plan.{Plan}
use Rattle.pm_clp.specs.Clps.{rec_at}
use Rattle.pm_clp.specs.Takes.{takes}
use Rattle.pm_sim.specs.Journals.{made, made_at}
use Rattle.pm_sim.specs.Looks.{agent_of, clp_of}
use Rattle.pm_sim.specs.Sims.{In, num_of}
use Rattle.pm_sim.specs.Worlds.{Mail, Process, World, after_events, clps_of, first_world, home, hub_of, is_legal_run, mail, number, process}
use Rattle.pm_sim.specs.Worlds.Process.{AtAgent, AtClp}
use Rattle.pm_message.specs.declared.Message.TheVariants as message

-- no turn of the record's reads is above k
abbrev pub Turns : ℕ → Parts → Type 0
Turns k r = (x : ReadRow) → In x r.reads → x.turn ≤ k

-- no turn of these records is above k
abbrev pub TurnsIn : ℕ → List (Option Parts) → Type 0
TurnsIn k rs = (v : ℕ) (r : Parts) → rec_at rs v ≡ Some r → Turns k r

-- no turn in the message is above k
abbrev pub TurnOf : ℕ → Message → Type 0
TurnOf k (message.Give g) = g.turn ≤ k
TurnOf k (message.Move v z r) = Turns k r
TurnOf k (message.Wake n z) = Unit {0}
TurnOf k (message.Ask n z y) = Unit {0}
TurnOf k (message.Put r_n r_t v r_c) = Unit {0}
TurnOf k (message.Cut r_n r_t v) = Unit {0}
TurnOf k (message.Finish n z) = Unit {0}
TurnOf k (message.Grow j z u w) = Unit {0}

-- an agent takes its own Wakes, and from its home a hit of a variable that exists, or the end of a query
abbrev pub AgentTakes : Plan → ℕ → Process → Message → Type 0
AgentTakes p a f (message.Wake k s) = f ≡ AtAgent a
AgentTakes p a f (message.Give g) = (f ≡ AtClp (home p a)) × (g.var < var_count p.layout.classes)
AgentTakes p a f (message.Finish k s) = f ≡ AtClp (home p a)
AgentTakes p a f (message.Ask k s q) = ⊥
AgentTakes p a f (message.Put r_n r_t v r_c) = ⊥
AgentTakes p a f (message.Cut r_n r_t v) = ⊥
AgentTakes p a f (message.Move v s r) = ⊥
AgentTakes p a f (message.Grow k s u z) = ⊥

-- the receiver, after so many deliveries to it, takes the message from there
abbrev pub IsTaken : Plan → World → ℕ → Process → Process → Message → Type 0
IsTaken p w made (AtClp c) f m = (c < clps_of p) × (takes (hub_of p c) made (clp_of w c) (number p f) m ≡ true)
IsTaken p w made (AtAgent a) f m = (a < length p.agents) × AgentTakes p a f m

-- in each world of a legal run with fewer than 20,000,000 deliveries each message in a link is one that its receiver
-- takes
abbrev pub MessagesAreTaken : Plan → List Event → Type 0
MessagesAreTaken p es =
    is_legal_run p (first_world p) es ≡ true →
    made es < 20000000 →
    (x : Mail) → In x (mail (after_events p (first_world p) es).links) →
    IsTaken p (after_events p (first_world p) es) (made_at p x.to es) x.to x.from x.message

-- the ends of all numbers after at most 20,000,000 deliveries
pub record Limits (p : Plan) (w : World) : Type 0 where
  pub turns : (x : Mail) → In x (mail w.links) → TurnOf 20000000 x.message
  pub records : (c : ℕ) → TurnsIn 20000000 (clp_of w c).records
  pub numbers : (a : ℕ) → (agent_of w a).seq ≤ 81940000001
  pub messages : (x : Mail) → In x (mail w.links) → (num_of x.message).seq ≤ 81940000001
  pub steps : (a : ℕ) → length (agent_of w a).steps ≤ 20000000
  pub times : (x : Mail) → In x (mail w.links) → (stamp_of x.message).time ≤ p.horizon

-- so they are in each world of a legal run
abbrev pub NumbersStayLow : Plan → List Event → Type 0
NumbersStayLow p es =
    is_legal_run p (first_world p) es ≡ true →
    made es ≤ 20000000 →
    Limits p (after_events p (first_world p) es)

-- a run's deliveries are the sum of those at each process
abbrev pub sum_to : (ℕ → ℕ) → ℕ → ℕ
sum_to f zero = 0
sum_to f (suc n) = f n + sum_to f n

-- so it is for each legal run
abbrev pub DeliveriesAdd : Plan → List Event → Type 0
DeliveriesAdd p es =
    is_legal_run p (first_world p) es ≡ true →
    sum_to (λ i. made_at p (process p i) es) (clps_of p + length p.agents) ≡ made es
