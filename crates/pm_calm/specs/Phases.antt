-- What the lowest run keeps: at most one query is open, and all but Wakes has the moment of the line.
use Rattle.std.specs.Prelude.{ℕ, ◌<◌, ◌≤◌, ◌≡◌, ◌⊎◌, Bool, true, false, List, [], ◌∷◌, length, get_or, Some, None}
use Rattle.pm_base.specs.declared.rows.GiveRow.{GiveRow}
use Rattle.pm_base.specs.declared.rows.Parts.{Parts}
use Rattle.pm_base.specs.declared.rows.PutRow.{PutRow}
use Rattle.pm_base.specs.declared.rows.ReadRow.{ReadRow}
use Rattle.pm_base.specs.declared.stamp.Line.TheVariants as line
use Rattle.pm_base.specs.declared.stamp.Num.{Num}
use Rattle.pm_base.specs.declared.stamp.Stamp.{Stamp}
use Rattle.pm_base.specs.declared.value.Query.{Query}
use Rattle.pm_base.specs.declared.value.Query.TheVariants as query
use Rattle.pm_base.specs.declared.value.Window.{Window}
use Rattle.pm_message.specs.declared.Message.{Message}
use Rattle.pm_message.specs.declared.Message.TheVariants as message
use Rattle.pm_periods.specs.Records.{IsSettled, hit_in}
use Rattle.pm_plan.specs.declared.plan.Plan.{Plan}
use Rattle.pm_saved.specs.declared.kept.KeptSense.{KeptSense}
use Rattle.pm_saved.specs.declared.kept.KeptStep.{KeptStep}
use Rattle.pm_alp.specs.Agents.{no_agent, wake_of}
use Rattle.pm_alp.specs.declared.agent.Agent.{Agent}
use Rattle.pm_queries.specs.declared.registered.Registered.{Registered}
use Rattle.pm_clp.specs.Clps.{ClpState, floor_of, rec_at}
use Rattle.pm_sim.specs.Bounds.{between}
use Rattle.pm_sim.specs.Routings.{IsClp}
use Rattle.pm_sim.specs.Sims.{In, class_at, has_read, tally}
use Rattle.pm_sim.specs.Worlds.{Link, Mail, Process, World, clps_of, mail, no_clp, process}
use Rattle.pm_sim.specs.Worlds.Process.{AtAgent, AtClp}

-- the open query of the line's step: none, a single read, a class query
pub data Phase : Type 0 where
  Idle : Phase
  Single : Num → ℕ → Phase
  Range : Num → ℕ → Window → Phase

-- a read of k would find nothing new
abbrev pub Silent : Num → Window → Parts → Type 0
Silent k u r = (has_read k r.reads ≡ true) ⊎ (hit_in r.base u ≡ None)

-- a record at stamp s; over are the class queries that are over
pub record RecAt (p : Plan) (s : Stamp) (over : Num → ℕ → Window → Type 0) (v : ℕ) (r : Parts) : Type 0 where
  pub puts : (x : PutRow) → In x r.puts → x.stamp ≡ s
  pub reads : (x : ReadRow) → In x r.reads → x.stamp ≡ s
  pub solid : IsSettled r
  pub silent : (k : Num) (j : ℕ) (u : Window) → over k j u → class_at p v ≡ j → Silent k u r

-- an Ask on its way: of the open query, or of a class query that is over and comes from a communication process
abbrev pub AskAt : Phase → (Num → ℕ → Window → Type 0) → Process → Num → Query → Type 0
AskAt Idle over from k (query.One v) = ⊥
AskAt Idle over from k (query.Class j u) = over k j u × IsClp from
AskAt (Single n x) over from k (query.One v) = k ≡ n
AskAt (Single n x) over from k (query.Class j u) = over k j u × IsClp from
AskAt (Range n i w) over from k (query.One v) = ⊥
AskAt (Range n i w) over from k (query.Class j u) = (k ≡ n) × (j ≡ i) × (u ≡ w)

-- a Give on its way is for the open query
abbrev pub GiveAt : Phase → GiveRow → Type 0
GiveAt Idle g = ⊥
GiveAt (Single n x) g = g.num ≡ n
GiveAt (Range n i w) g = g.num ≡ n

-- a Finish on its way: of the open class query, or to a communication process
abbrev pub FinishAt : Phase → Process → Num → Type 0
FinishAt Idle to k = IsClp to
FinishAt (Single n x) to k = IsClp to
FinishAt (Range n i w) to k = k ≡ n

-- Puts and Grows are on their way only where no query is open
abbrev pub WriteAt : Phase → Type 0
WriteAt Idle = Unit {0}
WriteAt (Single n x) = ⊥
WriteAt (Range n i w) = ⊥

-- a Move is on its way only where no class query is open
abbrev pub MoveAt : Phase → Type 0
MoveAt Idle = Unit {0}
MoveAt (Single n x) = Unit {0}
MoveAt (Range n i w) = ⊥

-- a message on its way, to and from
abbrev pub MailAt : Plan → Stamp → (Num → ℕ → Window → Type 0) → Phase → Process → Process → Message → Type 0
MailAt p s over ph to from (message.Wake k z) = from ≡ to
MailAt p s over ph to from (message.Ask k z q) = (z ≡ s) × AskAt ph over from k q
MailAt p s over ph to from (message.Put r_n r_t v r_c) = (r_t ≡ s) × WriteAt ph
MailAt p s over ph to from (message.Cut r_n r_t v) = ⊥
MailAt p s over ph to from (message.Give g) = (g.stamp ≡ s) × GiveAt ph g × IsClp from
MailAt p s over ph to from (message.Finish k z) = (z ≡ s) × FinishAt ph to k
MailAt p s over ph to from (message.Move v z r) = (z ≡ s) × MoveAt ph × RecAt p s over v r
MailAt p s over ph to from (message.Grow k z u w) = (z ≡ s) × WriteAt ph

-- a registered query that is over waits for nobody where it came from the agent
abbrev pub EndsAt : Plan → Registered → Type 0
EndsAt p r = (a : ℕ) → process p r.from ≡ AtAgent a → r.waits ≡ []

-- a registered query that is over
abbrev pub OverAt : Plan → (Num → ℕ → Window → Type 0) → Registered → Type 0
OverAt p over r = over r.num r.class r.window × EndsAt p r

-- a registered query: over, or the open one
abbrev pub RegAt : Plan → (Num → ℕ → Window → Type 0) → Phase → Registered → Type 0
RegAt p over Idle r = OverAt p over r
RegAt p over (Single n x) r = OverAt p over r
RegAt p over (Range n i w) r = OverAt p over r ⊎ ((r.num ≡ n) × (r.class ≡ i) × (r.window ≡ w))

-- a communication process: its records, and its registered queries, all of that moment
pub record ClpAt (p : Plan) (s : Stamp) (over : Num → ℕ → Window → Type 0) (ph : Phase) (c : ClpState) : Type 0 where
  pub records : (v : ℕ) (r : Parts) → rec_at c.records v ≡ Some r → RecAt p s over v r
  pub stamps : (r : Registered) → In r c.queries → r.stamp ≡ s
  pub regs : (r : Registered) → In r c.queries → RegAt p over ph r
  pub line : floor_of c.line ≡ s

-- of a single read one letter is on its way: the Ask or its Give
abbrev pub token : Phase → Message → Bool
token Idle m = false
token (Range n i w) m = false
token (Single n x) (message.Ask k z (query.One v)) = true
token (Single n x) (message.Ask k z (query.Class j u)) = false
token (Single n x) (message.Give g) = true
token (Single n x) (message.Wake k z) = false
token (Single n x) (message.Put r_n r_t v r_c) = false
token (Single n x) (message.Cut r_n r_t v) = false
token (Single n x) (message.Finish k z) = false
token (Single n x) (message.Move v z r) = false
token (Single n x) (message.Grow k z u w) = false

-- a class query that is over
pub record Over : Type 0 where
  pub num : Num
  pub class : ℕ
  pub window : Window

-- the class query is one of these
abbrev pub is_over : List Over → Num → ℕ → Window → Type 0
is_over os k j u = In (record { num = k; class = j; window = u }) os

-- the sense of the open query
abbrev pub OpenSense : Phase → KeptSense → Type 0
OpenSense Idle x = ⊥
OpenSense (Single n v) x = (x.num ≡ n) × (x.complete ≡ false) × (x.query ≡ query.One v)
OpenSense (Range n i w) x = (x.num ≡ n) × (x.complete ≡ false) × (x.query ≡ query.Class i w)

-- the number isn't the open query's
abbrev pub NotOpen : Phase → Num → Type 0
NotOpen Idle k = Unit {0}
NotOpen (Single n v) k = k ≡ n → ⊥
NotOpen (Range n i w) k = k ≡ n → ⊥

-- all senses but the open one are complete
abbrev pub SenseAt : Phase → KeptSense → Type 0
SenseAt ph x = ((x.complete ≡ true) × NotOpen ph x.num) ⊎ OpenSense ph x

-- an agent's kept steps are of that moment
pub record AgentAt (s : Stamp) (ph : Phase) (a : Agent) : Type 0 where
  pub steps : (t : KeptStep) → In t a.steps → t.stamp ≡ s
  pub senses : (t : KeptStep) (x : KeptSense) → In t a.steps → In x t.senses → SenseAt ph x

-- agent i has sense n
abbrev pub HasSense : World → Num → Type 0
HasSense w n = (n.agent < length w.agents) × (t : KeptStep) × (x : KeptSense)
    × In t (get_or w.agents n.agent no_agent).steps × In x t.senses × (x.num ≡ n)

-- the open query's sense is there
abbrev pub OpenIn : Phase → World → Type 0
OpenIn Idle w = Unit {0}
OpenIn (Single n v) w = HasSense w n
OpenIn (Range n i u) w = HasSense w n

-- the world of the lowest run behind its first Commit, but for the order of a class query's answers
pub record Calm (p : Plan) (w : World) (s : Stamp) (os : List Over) (ph : Phase) : Type 0 where
  pub line : w.line ≡ line.At s
  pub clps : (c : ℕ) → c < clps_of p → ClpAt p s (is_over os) ph (get_or w.clps c no_clp)
  pub letters : (x : Mail) → In x (mail w.links) → MailAt p s (is_over os) ph x.to x.from x.message
  pub tokens : tally (λ (x : Mail). token ph x.message) (mail w.links) ≤ 1
  pub agents : (i : ℕ) → i < length w.agents → AgentAt s ph (get_or w.agents i no_agent)
  pub opens : OpenIn ph w
  -- an agent's own link has the Wake that it awaits, and no other
  pub own : (i : ℕ) → i < length w.agents → between (AtAgent i) (AtAgent i) w.links ≡ wake_of
      (get_or w.agents i no_agent).awaited

-- the message is a Finish
abbrev pub IsFinish : Message → Type 0
IsFinish (message.Finish k z) = Unit {0}
IsFinish (message.Wake k z) = ⊥
IsFinish (message.Ask k z q) = ⊥
IsFinish (message.Put r_n r_t v r_c) = ⊥
IsFinish (message.Cut r_n r_t v) = ⊥
IsFinish (message.Give g) = ⊥
IsFinish (message.Move v z r) = ⊥
IsFinish (message.Grow k z u w) = ⊥

-- the message is a Finish or a Give
abbrev pub IsAnswer : Message → Type 0
IsAnswer (message.Finish k z) = Unit {0}
IsAnswer (message.Give g) = Unit {0}
IsAnswer (message.Wake k z) = ⊥
IsAnswer (message.Ask k z q) = ⊥
IsAnswer (message.Put r_n r_t v r_c) = ⊥
IsAnswer (message.Cut r_n r_t v) = ⊥
IsAnswer (message.Move v z r) = ⊥
IsAnswer (message.Grow k z u w) = ⊥

-- behind a Finish comes no Finish and no Give
abbrev pub Tidy : List Message → Type 0
Tidy [] = Unit {0}
Tidy (m ∷ ms) = (IsFinish m → (x : Message) → In x ms → IsAnswer x → ⊥) × Tidy ms

-- communication process d has the query n registered and waits for e
abbrev pub Waiting : Num → (ℕ → List Registered) → ℕ → ℕ → Type 0
Waiting n qs d e = (r : Registered) × In r (qs d) × (r.num ≡ n) × In e r.waits

-- it waits for nobody
abbrev pub Ended : Num → (ℕ → List Registered) → ℕ → Type 0
Ended n qs d = (r : Registered) × In r (qs d) × (r.num ≡ n) × (r.waits ≡ [])

-- the order of the open class query's answers: what comes from a process that has ended it comes before its Finish
pub record InOrder (p : Plan) (n : Num) (qs : ℕ → List Registered) (ls : List Link) : Type 0 where
  pub tidy : (to : Process) (e : ℕ) → Tidy (between to (AtClp e) ls)
  pub gives : (d e : ℕ) (g : GiveRow) → In (message.Give g) (between (AtClp d) (AtClp e) ls) → Waiting n qs d e
  pub ends : (to : Process) (e : ℕ) (k : Num) (z : Stamp) → In (message.Finish k z) (between to (AtClp e) ls)
      → Ended n qs e
  pub up : (d c : ℕ) (r : Registered) → d < clps_of p → In r (qs d) → r.num ≡ n
      → process p r.from ≡ AtClp c → (r.waits ≡ [] → ⊥) → Waiting n qs c d
  pub asks : (d c : ℕ) (k : Num) (z : Stamp) (q : Query) → In (message.Ask k z q) (between (AtClp d) (AtClp c) ls)
      → Waiting n qs c d

-- so it is where a class query is open
abbrev pub OrderIn : Phase → Plan → World → Type 0
OrderIn Idle p w = Unit {0}
OrderIn (Single n v) p w = Unit {0}
OrderIn (Range n i u) p w = InOrder p n (λ c. (get_or w.clps c no_clp).queries) w.links
