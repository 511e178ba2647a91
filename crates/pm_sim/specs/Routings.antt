-- What each event keeps true of the tree: registered class queries, and where they are on their way.
use Rattle.pm_queries.specs.Queries.{has_reg, ask_of}
use Rattle.pm_queries.specs.declared.registered.Registered.{Registered}
use Rattle.pm_base.specs.Stamps.{num_eq}
use Rattle.std.specs.Prelude.{Option, None, ℕ, suc, ◌+◌, ◌<◌, ◌≤◌, ◌≡◌, ◌⊎◌, ◌==◌, Bool, true, false, ◌&&◌, if◌then◌else◌, List, [], ◌∷◌, length, Some}
use Rattle.pm_base.specs.declared.rows.Parts.{Parts}
use Rattle.pm_base.specs.declared.stamp.Line.{Line}
use Rattle.pm_base.specs.declared.stamp.Num.{Num}
use Rattle.pm_base.specs.declared.stamp.Stamp.{Stamp}
use Rattle.pm_base.specs.declared.value.Query.{Query}
use Rattle.pm_base.specs.declared.value.Window.{Window}
use Rattle.pm_message.specs.declared.Message.{Message}
use Rattle.pm_periods.specs.Records.{settled}
use Rattle.pm_plan.specs.Plans.{parents}
use Rattle.pm_plan.specs.Trees.{hop}
use Rattle.pm_plan.specs.declared.plan.Plan.{Plan}
use Rattle.pm_clp.specs.Clps.{ClpState, rec_at, way_of}
use Rattle.pm_sim.specs.Worlds.{Mail, Process, home, is_process, clps_of, ports, process}
use Rattle.pm_sim.specs.Worlds.Process.{AtClp, AtAgent}
use Rattle.pm_sim.specs.Sims.{AtMost, In, NotPast, one_if, tally}
use Rattle.pm_base.specs.declared.value.Query.TheVariants as query
use Rattle.pm_message.specs.declared.Message.TheVariants as message
use Rattle.pm_routes.specs.declared.way.Way.TheVariants as way

-- the process to which c sends what is for agent a
abbrev pub toward : Plan → ℕ → ℕ → Process
toward p c a = if c == home p a then AtAgent a else AtClp (hop (parents p.clps) c (home p a))

-- the plan's communication processes are a tree: a hop goes to a neighbour that is one nearer, and of two neighbours
-- each is behind the other
pub record TreeOk (p : Plan) : Type 0 where
  pub dist : ℕ → ℕ → ℕ
  pub hop_port : (c h : ℕ) → c < clps_of p → h < clps_of p → (c ≡ h → ⊥) → In (hop (parents p.clps) c h) (ports p c)
  pub inside : (c d : ℕ) → In d (ports p c) → d < clps_of p
  pub back : (c d : ℕ) → c < clps_of p → In d (ports p c) → In c (ports p d)
  pub nearer : (c h : ℕ)
      → c < clps_of p → h < clps_of p → (c ≡ h → ⊥) → suc (dist (hop (parents p.clps) c h) h) ≡ dist c h
  pub either : (c d h : ℕ) → c < clps_of p → h < clps_of p → In d (ports p c)
      → ((d ≡ h → ⊥) × (hop (parents p.clps) d h ≡ c)) ⊎ ((c ≡ h → ⊥) × (hop (parents p.clps) c h ≡ d))
  pub once : (c d : ℕ) → tally (λ e. d == e) (ports p c) ≤ 1
  pub far : ℕ
  pub near : (c h : ℕ) → c < clps_of p → h < clps_of p → dist c h < far
  pub homes : (a : ℕ) → home p a < clps_of p

-- the message is an Ask of the class query with the number
abbrev pub is_ask : Num → Message → Bool
is_ask n (message.Ask m s (query.Class k w)) = num_eq n m
is_ask n (message.Ask m s (query.One v)) = false
is_ask n (message.Wake m s) = false
is_ask n (message.Put r_n r_t v r_c) = false
is_ask n (message.Cut r_n r_t v) = false
is_ask n (message.Give g) = false
is_ask n (message.Finish m s) = false
is_ask n (message.Move v s r) = false
is_ask n (message.Grow k s u w) = false

-- an Ask of the class query n on its way to communication process c
abbrev pub ask_to : Num → ℕ → Mail → Bool
ask_to n c x = is_process x.to (AtClp c) && is_ask n x.message

-- a message on its way to a process from a process
abbrev pub mail_to : Process → Process → Message → Mail
mail_to to from m = record { to = to; from = from; message = m }

-- communication process d has registered the query n as sent to c
abbrev pub Up : (ℕ → List Registered) → ℕ → Num → ℕ → Type 0
Up qs d n c = (r : Registered) × In r (qs d) × (r.num ≡ n) × In c r.sent

-- the end of the query n, for which f waits, is on its way from d: its Ask is on its way to d, or d waits for a port,
-- or its Finish is on its way to f
abbrev pub Goes : (ℕ → List Registered) → List Mail → Num → ℕ → Process → Type 0
Goes qs ms n d f =
    ((s : Stamp) × (k : ℕ) × (w : Window) × In (mail_to (AtClp d) f (message.Ask n s (query.Class k w))) ms)
    ⊎ (((r : Registered) × In r (qs d) × (r.num ≡ n) × (r.waits ≡ [] → ⊥))
    ⊎ ((s : Stamp) × In (mail_to f (AtClp d) (message.Finish n s)) ms))

-- no query is registered twice
abbrev pub NoTwiceReg : List Registered → Type 0
NoTwiceReg [] = Unit {0}
NoTwiceReg (r ∷ rs) = (has_reg r.num rs ≡ false) × NoTwiceReg rs

-- registered class queries (qs, by communication process) and their Asks and Finishes on their way: each came from the
-- neighbour towards its agent, no Ask of one is twice on its way to a process or on its way where it is registered, and
-- the end of each port waited for is on its way
pub record QueriesOk (p : Plan) (l : Line) (issued : List Message) (qs : ℕ → List Registered) (ms : List Mail) :
    Type 0 where
  pub reg : (c : ℕ) (r : Registered) → c < clps_of p
      → In r (qs c) → In (ask_of r) issued × NotPast l r.stamp × (process p r.from ≡ toward p c r.num.agent)
  pub asks : (c : ℕ) (f : Process) (n : Num) (s : Stamp) (k : ℕ) (w : Window)
      → In (mail_to (AtClp c) f (message.Ask n s (query.Class k w))) ms → (c < clps_of p) × (f ≡ toward p c n.agent)
  pub once : (n : Num) (c : ℕ) → c < clps_of p → tally (ask_to n c) ms + one_if (has_reg n (qs c)) 0 ≤ 1
  pub alone : (c : ℕ) → c < clps_of p → NoTwiceReg (qs c)
  pub asked : (c d : ℕ) (n : Num) (s : Stamp) (k : ℕ) (w : Window)
      → In (mail_to (AtClp c) (AtClp d) (message.Ask n s (query.Class k w))) ms → Up qs d n c
  pub up : (c : ℕ) (r : Registered) → c < clps_of p
      → In r (qs c) → (c ≡ home p r.num.agent → ⊥) → Up qs (hop (parents p.clps) c (home p r.num.agent)) r.num c
  pub outward : (c : ℕ) (r : Registered) (d : ℕ) → c < clps_of p → In r (qs c) → In d r.waits
      → In d (ports p c) × (d ≡ home p r.num.agent → ⊥) × (hop (parents p.clps) d (home p r.num.agent) ≡ c)
  pub waits : (c : ℕ) (r : Registered) (d : ℕ)
      → c < clps_of p → In r (qs c) → In d r.waits → Goes qs ms r.num d (AtClp c)

-- the end of n is on its way to its agent
abbrev pub Wait : Plan → (ℕ → List Registered) → List Mail → Num → Type 0
Wait p qs ms n = Goes qs ms n (home p n.agent) (AtAgent n.agent)

-- the class query n is registered at its agent's home, or its Ask is on its way there
abbrev pub Begun : Plan → (ℕ → List Registered) → List Mail → Num → Type 0
Begun p qs ms n = (has_reg n (qs (home p n.agent)) ≡ true)
    ⊎ ((s : Stamp) × (k : ℕ)
    × (w : Window) × In (mail_to (AtClp (home p n.agent)) (AtAgent n.agent) (message.Ask n s (query.Class k w))) ms)

-- the query asks for a variable that exists, or for a class
abbrev pub AskIn : ℕ → Query → Type 0
AskIn n (query.One v) = v < n
AskIn n (query.Class k w) = Unit {0}

-- the process is a communication process
abbrev pub IsClp : Process → Type 0
IsClp (AtClp c) = Unit {0}
IsClp (AtAgent a) = ⊥

-- a communication process takes such a message from f; n is the number of variables
abbrev pub ForClp : ℕ → Process → Message → Type 0
ForClp n f (message.Ask k s q) = AskIn n q
ForClp n f (message.Put r_n r_t v r_c) = v < n
ForClp n f (message.Cut r_n r_t v) = v < n
ForClp n f (message.Give g) = Unit {0}
ForClp n f (message.Finish k s) = IsClp f
ForClp n f (message.Wake k s) = ⊥
ForClp n f (message.Move v s r) = Unit {0}
ForClp n f (message.Grow k s u w) = IsClp f

-- agent i takes such a message
abbrev pub ForAgent : ℕ → Message → Type 0
ForAgent i (message.Wake k s) = k.agent ≡ i
ForAgent i (message.Give g) = g.num.agent ≡ i
ForAgent i (message.Finish k s) = k.agent ≡ i
ForAgent i (message.Ask k s q) = ⊥
ForAgent i (message.Put r_n r_t v r_c) = ⊥
ForAgent i (message.Cut r_n r_t v) = ⊥
ForAgent i (message.Move v s r) = ⊥
ForAgent i (message.Grow k s u w) = ⊥

-- the receiver takes such a message; N is the number of communication processes
abbrev pub FitsAt : ℕ → ℕ → Process → Process → Message → Type 0
FitsAt N n (AtClp c) f m = (c < N) × ForClp n f m
FitsAt N n (AtAgent a) f m = ForAgent a m

-- the receiver of a message on its way takes it
abbrev pub Fits : ℕ → ℕ → Mail → Type 0
Fits N n x = FitsAt N n x.to x.from x.message

-- a record is here
abbrev pub stands_at : Option Parts → Bool
stands_at None = false
stands_at (Some r) = true

-- the message is no Move
abbrev pub unmoved : Message → Bool
unmoved (message.Move v s r) = false
unmoved (message.Wake n s) = true
unmoved (message.Ask n s q) = true
unmoved (message.Put r_n r_t v r_c) = true
unmoved (message.Cut r_n r_t v) = true
unmoved (message.Give g) = true
unmoved (message.Finish n s) = true
unmoved (message.Grow k s u w) = true

-- the message is a Move of the variable
abbrev pub moves_var : ℕ → Message → Bool
moves_var v (message.Move u s r) = v == u
moves_var v (message.Wake n s) = false
moves_var v (message.Ask n s q) = false
moves_var v (message.Put r_n r_t u r_c) = false
moves_var v (message.Cut r_n r_t u) = false
moves_var v (message.Give g) = false
moves_var v (message.Finish n s) = false
moves_var v (message.Grow k s u w) = false

-- a Move of the variable on its way
abbrev pub is_move : ℕ → Mail → Bool
is_move v x = moves_var v x.message

-- the communication processes have the world's line and the plan's ports; a record at one of them is there where its
-- place is, and a way that says Here has the record
pub record PlacesOk (p : Plan) (n : ℕ) (l : Line) (recs : ℕ → Parts) (place : ℕ → ℕ) (cs : ℕ → ClpState) : Type 0 where
  pub line : (c : ℕ) → c < clps_of p → (cs c).line ≡ l
  pub ports_are : (c : ℕ) → c < clps_of p → (cs c).routing.ports ≡ ports p c
  pub here : (c v : ℕ) → c < clps_of p → v < n → way_of v (cs c) ≡ way.Here → rec_at (cs c).records v ≡ Some (recs v)
  pub port : (c v d : ℕ) → c < clps_of p → v < n → way_of v (cs c) ≡ way.Port d → d < clps_of p
  pub at : (c v : ℕ) (r : Parts) → c < clps_of p → rec_at (cs c).records v ≡ Some r → (place v ≡ c) × (r ≡ recs v)
  pub records_len : (c : ℕ) → c < clps_of p → length (cs c).records ≡ n
  pub ways_len : (c : ℕ) → c < clps_of p → length (cs c).routing.ways ≡ n

-- each record is at its place, or in exactly one Move to it, over an edge of the tree; the floor of a Move is no later
-- than anything that is left
pub record MovesOk
    (p : Plan) (n : ℕ) (l : Line) (place : ℕ → ℕ) (recs : ℕ → Parts) (cs : ℕ → ClpState) (ms : List Mail) : Type 0 where
  pub placed : (v : ℕ) → v < n → (place v < clps_of p)
      × (((stands_at (rec_at (cs (place v)).records v) ≡ true) × (tally (is_move v) ms ≡ 0))
      ⊎ ((stands_at (rec_at (cs (place v)).records v) ≡ false) × (tally (is_move v) ms ≡ 1)))
  pub moves : (a f : Process) (v : ℕ) (s : Stamp) (r : Parts) → In (mail_to a f (message.Move v s r)) ms
      → (v < n) × (settled r ≡ recs v) × ((x : Stamp) → NotPast l x → AtMost s x)
      × (d : ℕ) × (a ≡ AtClp (place v)) × (f ≡ AtClp d) × (d < clps_of p) × In (place v) (ports p d)
