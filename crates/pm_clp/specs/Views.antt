-- What contracts see of a communication process.
use Rattle.pm_queries.specs.declared.registered.Sent.{Sent}
use Rattle.pm_queries.specs.declared.registered.Registered.{Registered}
use Rattle.pm_queries.specs.Queries.{ask_of, without}
use Rattle.std.specs.Prelude.{ℕ, ◌+◌, ◌^◌, ◌≤◌, ◌≡◌, suc, Bool, true, false, List, [], ◌∷◌, ◌++◌, length, get_or}
use Rattle.std.specs.Prelude.{Option, Some, None}
use Rattle.pm_base.specs.Layouts.{IsLayout, var_count}
use Rattle.pm_base.specs.declared.layout.Layout.{Layout}
use Rattle.pm_base.specs.declared.stamp.Line.{Line}
use Rattle.pm_base.specs.declared.rows.GiveRow.{GiveRow}
use Rattle.pm_base.specs.declared.rows.Parts.{Parts}
use Rattle.pm_message.specs.declared.Message.{Message}
use Rattle.pm_message.specs.declared.Message.TheVariants as message
use Rattle.pm_ranges.specs.Known.{Known}
use Rattle.pm_periods.specs.Periods.{periods_from}
use Rattle.pm_routes.specs.Routings.{Routing, left}
use Rattle.pm_tables.specs.Tables.{grow_periods}
use Rattle.pm_clp.specs.Clps.{ClpSends, ClpState, Hub, and_then, at_record, class_at, floor_of, leaves, no_clp_sends}
use Rattle.pm_clp.specs.Clps.{rec_at, take_watch}
use Rattle.pm_clp.specs.Kept.{Kept}

-- what it knows of its place, what it keeps, a number that no turn of a read is above, how many deliveries were made,
-- and whether memory was wanting in one of them
pub record ClpView : Type 0 where
  pub hub : Hub
  pub clp : ClpState
  pub limit : ℕ
  pub made : ℕ
  pub spoilt : Bool

-- its place
abbrev pub hub_of : List ℕ → List ℕ → Layout → Hub
hub_of ports to_agents layout = record { ports = ports; to_agents = to_agents; classes = layout.classes }

-- what it keeps
abbrev pub state_of : Kept → Routing → Line → List Registered → List (List Known) → List (List Known) → ClpState
state_of kept routing line queries bound told =
    record { records = kept.recs; routing = routing; line = line; queries = queries; bound = bound; told = told }

-- the classes are a layout, each variable has a way, the ways know the tree ports, and the turns rise with the
-- deliveries
pub record IsClp (ports : List ℕ) (layout : Layout) (kept : Kept) (routing : Routing) (made : ℕ) : Type 0 where
  pub classes : IsLayout layout
  pub ways : length routing.ways ≡ var_count layout.classes
  pub ports_are : routing.ports ≡ ports
  pub turns : kept.limit ≤ 2 ^ 32 + made
  pub few : made ≤ 20000000

-- what only a delivery's begin and its want of memory change: its place never, one more delivery, and that it is spoilt
pub record Frame : Type 0 where
  pub hub : Hub
  pub made : ℕ
  pub spoilt : Bool

abbrev pub frame_of : ClpView → Frame
frame_of c = record { hub = c.hub; made = c.made; spoilt = c.spoilt }

-- its place, how many deliveries were made and whether it is spoilt stay
abbrev pub Stays : ClpView → ClpView → Type 0
Stays was now = frame_of now ≡ frame_of was

-- the process did this: its state is what that leaves, all else stays, and what it sends was appended in order
pub record Did (was now : ClpView) (before after : List Sent) (f : ClpState → ClpSends) : Type 0 where
  pub state : now ≡ record was { clp = (f was.clp).clp }
  pub sent : after ≡ before ++ (f was.clp).sent

-- the same, where each turn may have risen by one
pub record DidRaise (was now : ClpView) (before after : List Sent) (f : ClpState → ClpSends) : Type 0 where
  pub state : now ≡ record was { clp = (f was.clp).clp; limit = suc was.limit }
  pub sent : after ≡ before ++ (f was.clp).sent

-- a hit on its way to the agent of its number
abbrev pub give_to : List ℕ → GiveRow → Sent
give_to to_agents g = record { to = get_or to_agents g.num.agent 0; message = message.Give g }

-- a message, where it is sent
abbrev pub sent_if : Bool → ℕ → Message → List Sent
sent_if true to m = record { to = to; message = m } ∷ []
sent_if false to m = []

-- on the way through a walk of actions: what is left leads to where the whole walk leads from its start
pub record Leads (now : ClpView) (out : List Sent) (rest : ClpState → ClpSends) (start : ClpView) (before : List Sent)
    (whole : ClpState → ClpSends) : Type 0 where
  pub state : record now { clp = (rest now.clp).clp } ≡ record start { clp = (whole start.clp).clp }
  pub sent : out ++ (rest now.clp).sent ≡ before ++ (whole start.clp).sent

-- these ports but for one that is passed over, where there is one
abbrev pub others : Option ℕ → List ℕ → List ℕ
others None ds = ds
others (Some d) ds = without d ds

-- the same, with no word on the turns
pub record DidAny (was now : ClpView) (before after : List Sent) (f : ClpState → ClpSends) : Type 0 where
  pub state : now ≡ record was { clp = (f was.clp).clp; limit = now.limit }
  pub sent : after ≡ before ++ (f was.clp).sent

-- a record that was taken off is sent to the port, whose bound grows by all its periods
abbrev pub sent_off : Hub → ℕ → ℕ → Parts → ClpState → ClpSends
sent_off h v d r s = record {
  clp = record s {
    routing = left s.routing v d;
    bound = grow_periods h.ports d (class_at h v) (periods_from r None)
        s.bound;
  };
  sent = record { to = d; message = message.Move v (floor_of s.line) r } ∷ [];
}

-- the record of the variable leaves for the port, where it is here
abbrev pub leave : Hub → ℕ → ℕ → ClpState → ClpSends
leave h v d s = leaves h true v d (rec_at s.records v) s

-- the query on its way to the port
abbrev pub asked_at : Registered → ℕ → Sent
asked_at r d = record { to = d; message = ask_of r }

-- the read of a query, by the variable's record; nothing where there is no query
abbrev pub watch_at : Hub → ℕ → Option Registered → ClpState → ClpSends
watch_at h v None s = no_clp_sends s
watch_at h v (Some r) s = at_record h v (take_watch v r.num r.stamp r.window) s

-- the reads of these queries, in order
abbrev pub watch_each : Hub → ℕ → List Registered → ClpState → ClpSends
watch_each h v [] s = no_clp_sends s
watch_each h v (r ∷ rs) s = and_then (watch_at h v (Some r) s) (watch_each h v rs)
