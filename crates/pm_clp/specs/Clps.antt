-- A communication process: its records, ways, registered queries and bounds, and what it does with a message.
use Rattle.std.specs.Prelude.{ℕ, zero, suc, ◌==◌, Bool, true, false, not, ◌&&◌, ◌||◌, if◌then◌else◌}
use Rattle.std.specs.Prelude.{List, [], ◌∷◌, ◌++◌, map, filter, get_or, set, Option, Some, None, pos}
use Rattle.pm_base.specs.Layouts.{class_of, class_row}
use Rattle.pm_base.specs.Stamps.{is_below}
use Rattle.pm_base.specs.Windows.{point_of, whole}
use Rattle.pm_base.specs.declared.layout.ClassRow.{ClassRow}
use Rattle.pm_base.specs.declared.rows.CutRow.{CutRow}
use Rattle.pm_base.specs.declared.rows.GiveRow.{GiveRow}
use Rattle.pm_base.specs.declared.rows.Parts.{Parts}
use Rattle.pm_base.specs.declared.rows.PutRow.{PutRow}
use Rattle.pm_base.specs.declared.stamp.Interval.{Interval}
use Rattle.pm_base.specs.declared.stamp.Line.{Line}
use Rattle.pm_base.specs.declared.stamp.Line.TheVariants as line
use Rattle.pm_base.specs.declared.stamp.Num.{Num}
use Rattle.pm_base.specs.declared.stamp.Stamp.{Stamp}
use Rattle.pm_base.specs.declared.value.Period.{Period}
use Rattle.pm_base.specs.declared.value.Change.{Change}
use Rattle.pm_base.specs.declared.value.Query.{Query}
use Rattle.pm_base.specs.declared.value.Query.TheVariants as query
use Rattle.pm_base.specs.declared.value.Value.{Value}
use Rattle.pm_base.specs.declared.value.Window.{Window}
use Rattle.pm_message.specs.declared.Message.{Message}
use Rattle.pm_message.specs.declared.Message.TheVariants as message
use Rattle.pm_periods.specs.Periods.{periods_from}
use Rattle.pm_periods.specs.Records.{after_cut, after_put, after_watch, cut_row, first_read, gives_of_cut, gives_of_put}
use Rattle.pm_periods.specs.Records.{gives_of_watch, settled}
use Rattle.pm_periods.specs.Records as records
use Rattle.pm_ranges.specs.Known.{Known, covers}
use Rattle.pm_routes.specs.Routings.{Routing, arrived, counted, first_routing, is_drawn, left, place_of}
use Rattle.pm_routes.specs.declared.way.Way.{Way}
use Rattle.pm_routes.specs.declared.way.Way.TheVariants as way
use Rattle.pm_tables.specs.Tables.{bounds_trim, first_bound, first_told, grow_at, grow_periods, known_at, may_hold}
use Rattle.pm_queries.specs.Queries.{add_reg, ask_of, finish_in, has, has_reg, without}
use Rattle.pm_queries.specs.declared.registered.Registered.{Registered}
use Rattle.pm_queries.specs.declared.registered.Sent.{Sent}

-- what a communication process knows of its place: its tree ports, ascending, the process towards each agent, and the
-- classes
pub record Hub : Type 0 where
  pub ports : List ℕ
  pub to_agents : List ℕ
  pub classes : List ClassRow

-- the records that are here, by variable; the ways and counts; the line; the registered queries, in order of (stamp,
-- number); and what may stand behind each port and what its neighbour was told, by port and class
pub record ClpState : Type 0 where
  pub records : List (Option Parts)
  pub routing : Routing
  pub line : Line
  pub queries : List Registered
  pub bound : List (List Known)
  pub told : List (List Known)

-- a communication process after a message, and what it sends, in order
pub record ClpSends : Type 0 where
  pub clp : ClpState
  pub sent : List Sent

-- nothing happens, and nothing is sent
abbrev pub no_clp_sends : ClpState → ClpSends
no_clp_sends s = record { clp = s; sent = [] }

-- one action, and then another in the state that the first left; what the first sends goes first
abbrev pub and_then : ClpSends → (ClpState → ClpSends) → ClpSends
and_then r f = record { clp = (f r.clp).clp; sent = r.sent ++ (f r.clp).sent }

-- the record of the variable, none where it is not here
abbrev pub rec_at : List (Option Parts) → ℕ → Option Parts
rec_at rs v = get_or rs v None

-- which way the variable is
abbrev pub way_of : ℕ → ClpState → Way
way_of v s = get_or s.routing.ways v way.Here

-- a record after a letter, and the hits that it gives
pub record Answered : Type 0 where
  pub rec : Parts
  pub gives : List GiveRow

-- a record that receives a write, and the hits that this gives
abbrev pub take_put : ℕ → PutRow → Parts → Answered
take_put v p r = record { rec = after_put p r; gives = gives_of_put v p r }

-- a record that receives a withdrawal, and the hits that this gives
abbrev pub take_cut : ℕ → CutRow → Parts → Answered
take_cut v c r = record { rec = after_cut c r; gives = gives_of_cut v c r }

-- a record that receives a read, and its first hit, where it has one
abbrev pub take_watch : ℕ → Num → Stamp → Window → Parts → Answered
take_watch v n t w r = record { rec = after_watch (first_read n t w) r; gives = gives_of_watch v (first_read n t w) r }

-- the write as a row
abbrev pub put_row : Num → Stamp → Change → PutRow
put_row n t c = record { num = n; stamp = t; change = c }

-- the stamp of the line, below which no row of a record here stands; a process at the end has none to send
abbrev pub floor_of : Line → Stamp
floor_of (line.At s) = s
floor_of line.End = record { time = 0; agent = 0 }

-- a Finish takes its port off, and goes on where no other port is waited for
abbrev pub after_finish : ℕ → Num → ClpState → ClpSends
after_finish from n s = record { clp = record s { queries = (finish_in n from s.queries).queries }; sent = (finish_in n from s.queries).sent }

module _ (h : Hub) where
  -- a hit on its way to the agent of its number
  abbrev pub to_agent : GiveRow → Sent
  to_agent g = record { to = get_or h.to_agents g.num.agent 0; message = message.Give g }

  -- the class of the variable
  abbrev pub class_at : ℕ → ℕ
  class_at v = class_of h.classes v

  -- a query of the class that came from elsewhere, was not sent to the port, and meets what may stand behind it now
  abbrev pub catches : List (List Known) → ℕ → ℕ → Registered → Bool
  catches bound d k r =
      k == r.class && (not (r.from == d) && (not (has d r.sent) && may_hold h.ports bound d k r.stamp r.window))

  -- such a query was sent there from now on
  abbrev pub caught : List (List Known) → ℕ → ℕ → Registered → Registered
  caught bound d k r = if catches bound d k r then record r { sent = r.sent ++ d ∷ [] } else r

  -- catching up at a port: each such query is sent there; none waits for that port
  abbrev pub catch_up : ℕ → ℕ → ClpState → ClpSends
  catch_up d k s = record {
    clp = record s { queries = map (caught s.bound d k) s.queries };
    sent = map (λ (r : Registered). record { to = d; message = ask_of r }) (filter (catches s.bound d k) s.queries);
  }

  -- the same, as a step of its own
  abbrev pub catching : ℕ → ℕ → ClpState → ClpSends
  catching d k s = catch_up d k s

  -- a port is told of a window of the class in an interval, unless what it was told covers it
  abbrev pub tell_one : ℕ → Stamp → Option Stamp → Window → ℕ → ClpState → ClpSends
  tell_one k from until w d s =
      if covers (known_at h.ports d k s.told) (record { from = Some from; until = until }) w then no_clp_sends s
      else record {
        clp = record s { told = grow_at h.ports d k (record { from = Some from; until = until }) w s.told };
        sent = record { to = d; message = message.Grow k from until w } ∷ [];
      }

  -- these ports are told of it, in order
  abbrev pub tell : ℕ → Stamp → Option Stamp → Window → List ℕ → ClpState → ClpSends
  tell k from until w [] s = no_clp_sends s
  tell k from until w (d ∷ ds) s = and_then (tell_one k from until w d s) (tell k from until w ds)

  -- all tree ports are told of the value of a period that has a begin
  abbrev pub tell_from : ℕ → Option Stamp → Period → ClpState → ClpSends
  tell_from k None r s = no_clp_sends s
  tell_from k (Some from) r s = tell k from r.when.until (point_of r.value) h.ports s

  -- and of each of these periods, in order
  abbrev pub tell_periods : ℕ → List Period → ClpState → ClpSends
  tell_periods k [] s = no_clp_sends s
  tell_periods k (r ∷ rs) s = and_then (tell_from k r.when.from r s) (tell_periods k rs)

  -- and of the periods of a record after a stamp
  abbrev pub tell_record : ℕ → Stamp → Option Parts → ClpState → ClpSends
  tell_record v from None s = no_clp_sends s
  tell_record v from (Some r) s = tell_periods (class_at v) (periods_from r (Some from)) s

  -- all tree ports are told what the variable is after the stamp
  abbrev pub telling : ℕ → Stamp → ClpState → ClpSends
  telling v from s = tell_record v from (rec_at s.records v) s

  -- the record goes to the port, whose bound grows by all its periods
  abbrev pub leaving : ℕ → ℕ → Parts → ClpState → ClpSends
  leaving v d r s = record {
    clp = record s {
      records = set s.records v None;
      routing = left s.routing v d;
      bound = grow_periods h.ports d (class_at v) (periods_from r None) s.bound;
    };
    sent = record { to = d; message = message.Move v (floor_of s.line) r } ∷ [];
  }

  -- where the variable is drawn there its record goes, and the port is caught up
  abbrev pub leaves : Bool → ℕ → ℕ → Option Parts → ClpState → ClpSends
  leaves false v d r s = no_clp_sends s
  leaves true v d None s = no_clp_sends s
  leaves true v d (Some r) s = and_then (leaving v d r s) (catching d (class_at v))

  -- the variable was asked for once more from there
  abbrev pub with_count : ℕ → ℕ → ClpState → ClpState
  with_count v from s = record s { routing = counted s.routing v from }

  -- counts an access to the variable, which goes to where it came from once it belongs there
  abbrev pub counting : ℕ → ℕ → ClpState → ClpSends
  counting v from s = leaves (is_drawn (counted s.routing v from) v from) v from (rec_at s.records v) (with_count v from s)

  -- a record takes a letter, where there is one, and its hits go to their agents
  abbrev pub on_record : ℕ → (Parts → Answered) → Option Parts → ClpState → ClpSends
  on_record v f None s = no_clp_sends s
  on_record v f (Some r) s = record { clp = record s { records = set s.records v (Some (f r).rec) }; sent = map to_agent (f r).gives }

  -- the record of the variable takes a letter
  abbrev pub at_record : ℕ → (Parts → Answered) → ClpState → ClpSends
  at_record v f s = on_record v f (rec_at s.records v) s

  -- a letter goes on to the port behind which the variable is, or is taken here
  abbrev pub on_way : Way → Message → ClpState → (ClpState → ClpSends) → ClpSends
  on_way (way.Port d) m s f = record { clp = s; sent = record { to = d; message = m } ∷ [] }
  on_way way.Here m s f = f s

  -- each record here of m variables from i on receives the read, in order
  abbrev pub watch_all : Num → Stamp → Window → ℕ → ℕ → ClpState → ClpSends
  watch_all n t w i zero s = no_clp_sends s
  watch_all n t w i (suc m) s = and_then (at_record i (take_watch i n t w) s) (watch_all n t w (suc i) m)

  -- the query goes on to the port: it came from elsewhere, and a value in its window may stand there at its stamp
  abbrev pub sent_on : List (List Known) → ℕ → ℕ → Stamp → Window → ℕ → Bool
  sent_on bound from k t w d = not (from == d) && may_hold h.ports bound d k t w

  -- the query is sent on to the ports; where there are none, Finish goes back
  abbrev pub forwards : ℕ → Registered → List ℕ → List Sent
  forwards from r [] = record { to = from; message = message.Finish r.num r.stamp } ∷ []
  forwards from r (d ∷ ds) = map (λ e. record { to = e; message = ask_of r }) (d ∷ ds)

  -- a query that was sent to these ports and waits for each of them
  abbrev pub reg_of : ℕ → Num → Stamp → ℕ → Window → List ℕ → Registered
  reg_of from n t k w ds = record { num = n; stamp = t; class = k; window = w; from = from; sent = ds; waits = ds }

  -- a query is registered and sent on to these ports
  abbrev pub registered_at : ℕ → Num → Stamp → ℕ → Window → List ℕ → ClpState → ClpSends
  registered_at from n t k w ds s = record {
    clp = record s { queries = add_reg (reg_of from n t k w ds) s.queries };
    sent = forwards from (reg_of from n t k w ds) ds;
  }

  -- a query is registered, and sent on to the ports behind which it may meet a value
  abbrev pub registered : ℕ → Num → Stamp → ℕ → Window → ClpState → ClpSends
  registered from n t k w s = registered_at from n t k w (filter (sent_on s.bound from k t w) h.ports) s

  -- a read of one variable is made at its record and counted; a class query is made at the records here, registered
  -- and sent on, and once more it does nothing
  abbrev pub on_ask : ℕ → Message → Num → Stamp → Query → ClpState → ClpSends
  on_ask from m n t (query.One v) s =
      on_way (way_of v s) m s (λ z. and_then (at_record v (take_watch v n t whole) z) (counting v from))
  on_ask from m n t (query.Class k w) s =
      if has_reg n s.queries then no_clp_sends s
      else and_then (watch_all n t w (class_row h.classes k).first (class_row h.classes k).count s) (registered from n t k w)

  -- a write is received, the tree ports are told of what the variable is now, and it is counted
  abbrev pub on_put : ℕ → Message → ℕ → PutRow → ClpState → ClpSends
  on_put from m v r s = on_way (way_of v s) m s (λ z.
      and_then (and_then (at_record v (take_put v r) z) (telling v r.stamp)) (counting v from))

  -- a withdrawal is received, the tree ports are told of what the variable is now; it is not counted
  abbrev pub on_cut : Message → ℕ → CutRow → ClpState → ClpSends
  on_cut m v r s = on_way (way_of v s) m s (λ z. and_then (at_record v (take_cut v r) z) (telling v r.stamp))

  -- more may stand behind the port
  abbrev pub grow_bound : ℕ → ℕ → Interval → Window → ClpState → ClpState
  grow_bound d k when w s = record s { bound = grow_at h.ports d k when w s.bound }

  -- more may stand behind a port: queries catch up there, and the other ports are told
  abbrev pub on_grow : ℕ → ℕ → Stamp → Option Stamp → Window → ClpState → ClpSends
  on_grow d k from until w s =
      and_then (catching d k (grow_bound d k (record { from = Some from; until = until }) w s))
      (tell k from until w (without d h.ports))

  -- a query of the variable's class watches its record
  abbrev pub watch_if : Bool → ℕ → Registered → ClpState → ClpSends
  watch_if false v r s = no_clp_sends s
  watch_if true v r s = at_record v (take_watch v r.num r.stamp r.window) s

  -- each registered query of the class watches the record that came, in order of (stamp, number)
  abbrev pub queries_watch : ℕ → List Registered → ClpState → ClpSends
  queries_watch v [] s = no_clp_sends s
  queries_watch v (r ∷ rs) s = and_then (watch_if (class_at v == r.class) v r s) (queries_watch v rs)

  -- a record that came is here: the neighbour that sent it knows all its values
  abbrev pub installed : ℕ → ℕ → Parts → ClpState → ClpState
  installed from v r s = record s {
    records = set s.records v (Some r);
    routing = arrived s.routing v;
    told = grow_periods h.ports from (class_at v) (periods_from r None) s.told;
  }

  -- a record comes, and the registered queries of its class watch it
  abbrev pub on_move : ℕ → ℕ → Parts → ClpState → ClpSends
  on_move from v r s = queries_watch v s.queries (installed from v (settled r) s)

  -- the process after a message from that process, and what it sends
  abbrev pub clp_after : ℕ → Message → ClpState → ClpSends
  clp_after from (message.Ask n t q) s = on_ask from (message.Ask n t q) n t q s
  clp_after from (message.Put n t v c) s = on_put from (message.Put n t v c) v (record { num = n; stamp = t; change = c }) s
  clp_after from (message.Cut n t v) s = on_cut (message.Cut n t v) v (cut_row n t) s
  clp_after from (message.Give g) s = record { clp = s; sent = to_agent g ∷ [] }
  clp_after from (message.Finish n t) s = after_finish from n s
  clp_after from (message.Grow k f u w) s = on_grow from k f u w s
  clp_after from (message.Move v t r) s = on_move from v r s
  clp_after from (message.Wake n t) s = no_clp_sends s

-- a record, where there is one, forgets what is below the line
abbrev pub option_trim : Line → Option Parts → Option Parts
option_trim l None = None
option_trim l (Some r) = Some (records.trimmed l r)

-- the process after a Commit: the line is this one, and what is below it is forgotten
abbrev pub clp_committed : Line → ClpState → ClpState
clp_committed l s = record {
  records = map (option_trim l) s.records;
  routing = s.routing;
  line = l;
  queries = filter (λ (r : Registered). not (is_below r.stamp l)) s.queries;
  bound = bounds_trim l s.bound;
  told = bounds_trim l s.told;
}

-- a record that has received nothing
abbrev pub first_parts : Value → Parts
first_parts v = record { base = v; puts = []; cuts = []; reads = [] }

-- the first record of a variable that is here
abbrev pub first_record : Way → Value → Option Parts
first_record way.Here v = Some (first_parts v)
first_record (way.Port d) v = None

-- the first records of all variables
abbrev pub first_records : List Way → List Value → List (Option Parts)
first_records [] vs = []
first_records (y ∷ ys) [] = []
first_records (y ∷ ys) (v ∷ vs) = first_record y v ∷ first_records ys vs

-- the first state, from the ways and the first values of the variables
abbrev pub first_clp : Hub → List Way → List Value → ℕ → ClpState
first_clp h ways values move_after = record {
  records = first_records ways values;
  routing = first_routing ways h.ports move_after;
  line = line.At (record { time = 0; agent = 0 });
  queries = [];
  bound = first_bound h.classes ways values h.ports;
  told = first_told h.classes ways values h.ports;
}
