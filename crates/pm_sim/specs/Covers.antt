-- What bounds and registered class queries rest on: where each record stands, and what is sent over each port.
use Rattle.pm_queries.specs.Queries.{has_reg, has}
use Rattle.pm_queries.specs.declared.registered.Registered.{Registered}
use Rattle.pm_tables.specs.Tables.{may_hold}
use Rattle.std.specs.Prelude.{ℕ, ◌<◌, ◌≡◌, ◌⊎◌, true, List, Option, Some, false, length}
use Rattle.pm_base.specs.declared.rows.Parts.{Parts}
use Rattle.pm_base.specs.declared.stamp.Stamp.{Stamp}
use Rattle.pm_base.specs.declared.value.Window.{Window}
use Rattle.pm_periods.specs.Records.{settled}
use Rattle.pm_plan.specs.declared.plan.Plan.{Plan}
use Rattle.pm_clp.specs.Clps.{ClpState, rec_at}
use Rattle.pm_sim.specs.Worlds.{Mail, Process, clps_of, ports, process}
use Rattle.pm_sim.specs.Worlds.Process.{AtClp}
use Rattle.pm_sim.specs.Sims.{In, class_at, has_read}
use Rattle.pm_sim.specs.Routings.{mail_to, stands_at}
use Rattle.pm_base.specs.declared.value.Query.TheVariants as query
use Rattle.pm_message.specs.declared.Message.TheVariants as message

-- over an edge of the tree, from communication process d to c
abbrev pub Door : Plan → ℕ → ℕ → Type 0
Door p d c = (d < clps_of p) × In c (ports p d)

-- v's record stands at CLP c, and nowhere else
pub record Stands (cs : ℕ → ClpState) (ms : List Mail) (v c : ℕ) : Type 0 where
  pub only : (d : ℕ) → stands_at (rec_at (cs d).records v) ≡ true → d ≡ c
  pub still : (a b : Process) (s : Stamp) (r : Parts) → In (mail_to a b (message.Move v s r)) ms → ⊥

-- what bounds need of places: each record is at one communication process, or in Moves over edges of the tree, and is
-- recs v wherever it is
pub record Placed (p : Plan) (recs : ℕ → Parts) (cs : ℕ → ClpState) (ms : List Mail) : Type 0 where
  pub only : (v c d : ℕ)
      → stands_at (rec_at (cs c).records v) ≡ true → stands_at (rec_at (cs d).records v) ≡ true → c ≡ d
  pub still : (v c : ℕ) → stands_at (rec_at (cs c).records v) ≡ true
      → (a b : Process) (s : Stamp) (r : Parts) → In (mail_to a b (message.Move v s r)) ms → ⊥
  pub move_edge : (a b : Process) (v : ℕ) (s : Stamp) (r : Parts)
      → In (mail_to a b (message.Move v s r)) ms → (c d : ℕ) × (a ≡ AtClp c) × (b ≡ AtClp d) × Door p d c
  pub here : (v c : ℕ) (r : Parts) → rec_at (cs c).records v ≡ Some r → r ≡ recs v
  pub moving : (a b : Process) (v : ℕ) (s : Stamp) (r : Parts)
      → In (mail_to a b (message.Move v s r)) ms → settled r ≡ recs v

-- registered class queries at each communication process: what was sent over a port is registered behind it or on its
-- way there; each record of the class that is here has the read; and over a port to which it was not sent nothing may
-- be found at its stamp
pub record AskedOk (p : Plan) (n : ℕ) (recs : ℕ → Parts) (cs : ℕ → ClpState) (ms : List Mail) : Type 0 where
  -- what was sent over a port is registered behind it, or on the way
  pub sent : (c d : ℕ) (r : Registered) → c < clps_of p → In r (cs c).queries → In d r.sent
      → (has_reg r.num (cs d).queries ≡ true) ⊎ ((s : Stamp)
      × (k : ℕ) × (w : Window) × In (mail_to (AtClp d) (AtClp c) (message.Ask r.num s (query.Class k w))) ms)
  -- each record of the class at the CLP has the read
  pub watched : (c v : ℕ) (r : Registered) (y : Parts) → c < clps_of p → v < n → In r (cs c).queries
      → class_at p v ≡ r.class → rec_at (cs c).records v ≡ Some y → has_read r.num (recs v).reads ≡ true
  -- over a port to which it wasn't sent nothing may be found
  pub pruned : (c d : ℕ) (r : Registered)
      → c < clps_of p → In r (cs c).queries → In d (ports p c) → (process p r.from ≡ AtClp d → ⊥)
      → has d r.sent ≡ false → may_hold (ports p c) (cs c).bound d r.class r.stamp r.window ≡ false
  -- Grows go over edges of the tree, and are of a class
  pub grows : (c d k : ℕ) (s : Stamp) (u : Option Stamp) (w : Window)
      → In (mail_to (AtClp c) (AtClp d) (message.Grow k s u w)) ms → Door p d c × (k < length p.layout.classes)
