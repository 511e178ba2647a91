-- No read and no write of a variable is ever sent back, where at most one message moves each variable.
use Rattle.std.specs.Prelude.{ℕ, ◌==◌, ◌<◌, ◌≤◌, ◌≡◌, ◌⊎◌, Bool, true, false, List, get_or, length, Some}
use Rattle.pm_base.specs.declared.rows.Parts.{Parts}
use Rattle.pm_base.specs.declared.stamp.Line.{Line}
use Rattle.pm_base.specs.declared.stamp.Line.TheVariants as line
use Rattle.pm_base.specs.declared.stamp.Stamp.{Stamp}
use Rattle.pm_base.specs.declared.value.Query.TheVariants as query
use Rattle.pm_message.specs.declared.Message.{Message}
use Rattle.pm_message.specs.declared.Message.TheVariants as message
use Rattle.pm_plan.specs.declared.plan.Plan.{Plan}
use Rattle.pm_queries.specs.declared.registered.Sent.{Sent}
use Rattle.pm_routes.specs.declared.way.Way.TheVariants as way
use Rattle.pm_clp.specs.Clps.{ClpSends, ClpState, Hub, clp_after, way_of}
use Rattle.pm_sim.specs.Reached.{Reached}
use Rattle.pm_sim.specs.Routings.{mail_to}
use Rattle.pm_sim.specs.Sims.{In, one_if, tally}
use Rattle.pm_sim.specs.Worlds.{Mail, Process, Taken, World, arrives, clps_of, commit, deliver, first_world, least_line, mail, no_clp, take_from}
use Rattle.pm_sim.specs.Worlds.Process.{AtAgent, AtClp}
use Rattle.pm_calm.specs.Lowest.{least_mail}
use Rattle.pm_calm.specs.Phases.{Calm, OrderIn, Over, Phase}
use Rattle.pm_cost.specs.Falls.{Onwards}

-- the message is a read or a write of the variable on its way
abbrev pub goes : ℕ → Message → Bool
goes v (message.Put n z u g) = v == u
goes v (message.Ask k z (query.One u)) = v == u
goes v (message.Ask k z (query.Class j w)) = false
goes v (message.Move u z r) = false
goes v (message.Wake k z) = false
goes v (message.Cut n z u) = false
goes v (message.Give g) = false
goes v (message.Finish k z) = false
goes v (message.Grow k z u w) = false

-- the message may move the variable, or moves it
abbrev pub touches : ℕ → Message → Bool
touches v (message.Put n z u g) = v == u
touches v (message.Ask k z (query.One u)) = v == u
touches v (message.Ask k z (query.Class j w)) = false
touches v (message.Move u z r) = v == u
touches v (message.Wake k z) = false
touches v (message.Cut n z u) = false
touches v (message.Give g) = false
touches v (message.Finish k z) = false
touches v (message.Grow k z u w) = false

-- how many of these messages touch the variable
abbrev pub touched : ℕ → List Sent → ℕ
touched v ss = tally (λ (y : Sent). touches v y.message) ss

-- what a delivery does to the way of a variable: no more messages touch it than before; its way changes only where the
-- message touches it; what goes on goes that way; and a new way to a port is that of a Move
pub record TurnsWay (v : ℕ) (m : Message) (x : ClpState) (r : ClpSends) : Type 0 where
  pub few : touched v r.sent ≤ one_if (touches v m) 0
  pub same : touches v m ≡ false → way_of v r.clp ≡ way_of v x
  pub sent : (y : Sent) → In y r.sent → goes v y.message ≡ true → way_of v r.clp ≡ way.Port y.to
  pub turns : (e : ℕ) → way_of v r.clp ≡ way.Port e → (way_of v x ≡ way.Port e)
      ⊎ ((z : Stamp) × (q : Parts) × In (record { to = e; message = message.Move v z q }) r.sent)

-- so it is of every delivery but that of a withdrawal
abbrev pub DeliveriesTurn : Hub → Type 0
DeliveriesTurn h = (v from : ℕ) (m : Message) (x : ClpState) → length x.records ≡ length x.routing.ways
    → TurnsWay v m x (clp_after h from m x)

-- of each variable at most one message on its way touches it; a read or a write that a communication process sent went
-- the way that it still has; and two ways face each other only where a Move of the variable is between them
pub record Straight (p : Plan) (w : World) : Type 0 where
  pub once : (v : ℕ) → tally (λ (x : Mail). touches v x.message) (mail w.links) ≤ 1
  pub ways : (v c d : ℕ) (m : Message) → In (mail_to (AtClp c) (AtClp d) m) (mail w.links) → goes v m ≡ true
      → way_of v (get_or w.clps d no_clp) ≡ way.Port c
  pub facing : (v c d : ℕ) → c < clps_of p → d < clps_of p
      → way_of v (get_or w.clps c no_clp) ≡ way.Port d → way_of v (get_or w.clps d no_clp) ≡ way.Port c
      → (z : Stamp) × (q : Parts) × (In (mail_to (AtClp d) (AtClp c) (message.Move v z q)) (mail w.links)
      ⊎ In (mail_to (AtClp c) (AtClp d) (message.Move v z q)) (mail w.links))

-- the message isn't sent back: its variable's way at the receiver doesn't lead to where it came from
abbrev pub IsOnward : World → ℕ → Process → Message → Type 0
IsOnward w c from m = Onwards from m (get_or w.clps c no_clp)

-- in such a world a delivery at a communication process sends nothing back, and leaves such a world
pub record StaysStraight (p : Plan) (w : World) (c : ℕ) (from : Process) (t : Taken) : Type 0 where
  pub onward : IsOnward w c from t.message
  pub next : Straight p (arrives p w (AtClp c) from t.message t.links)

-- so it is in each world that a legal run reaches
abbrev pub DeliveriesStayStraight : Plan → ℕ → World → Type 0
DeliveriesStayStraight p n w = Reached p n w → Straight p w → (c : ℕ) (from : Process) (t : Taken)
    → take_from (AtClp c) from w.links ≡ Some t → StaysStraight p w c from t

-- the first world is so, and a Commit leaves it so
pub record StraightStarts (p : Plan) : Type 0 where
  pub first : Straight p (first_world p)
  pub committed : (w : World) (l : Line) → Straight p w → Straight p (commit w l)

-- nothing is on its way to a communication process
abbrev pub Shut : World → Type 0
Shut w = (x : Mail) → In x (mail w.links) → (c : ℕ) → x.to ≡ AtClp c → ⊥

-- in a world that a legal run reaches, an agent that acts where nothing is on its way to a communication process leaves
-- such a world
abbrev pub AgentsStayStraight : Plan → ℕ → World → Type 0
AgentsStayStraight p n w = Reached p n w → Straight p w → Shut w → (a : ℕ) (from : Process) (t : Taken)
    → take_from (AtAgent a) from w.links ≡ Some t → Straight p (arrives p w (AtAgent a) from t.message t.links)

-- one delivery of the lowest run in a calm world at moment s, behind its Commit: what is taken leaves such a world
abbrev pub LowestStaysStraight : Plan → ℕ → World → Type 0
LowestStaysStraight p n w = Reached p n w → Straight p w → (s : Stamp) (os : List Over) (ph : Phase)
    → Calm p w s os ph → OrderIn ph p w → least_line w ≡ line.At s → (x : Mail) → least_mail p w ≡ Some x
    → Straight p (deliver p w x.to x.from)
