-- What each event keeps true, as far as it speaks of no way and no link: over the agents, the records and the letters.
use Rattle.pm_tables.specs.Tables.{no_value}
use Rattle.pm_saved.specs.Senses.{answer, answers, kept_hit, kept_turn}
use Rattle.pm_saved.specs.declared.kept.KeptStep.{KeptStep}
use Rattle.pm_saved.specs.declared.kept.KeptSense.{KeptSense}
use Rattle.pm_saved.specs.declared.kept.KeptHit.{KeptHit}
use Rattle.pm_saved.specs.declared.kept.KeptAct.{KeptAct}
use Rattle.pm_alp.specs.declared.agent.Awaited.{Awaited}
use Rattle.pm_alp.specs.declared.agent.Agent.{Agent}
use Rattle.std.specs.Prelude.{ℕ, suc, ◌+◌, ◌<◌, ◌≤◌, ◌≡◌, ◌⊎◌, ◌^◌, ◌-◌, Bool, true, false, if◌then◌else◌, nat_le, not, List, []}
use Rattle.std.specs.Prelude.{◌∷◌, ◌++◌, map, length, get_or, Option, Some, None, ℤ}
use Rattle.std.specs.List.{AllByRecursion}
use Rattle.pm_base.specs.declared.rows.CutRow.{CutRow}
use Rattle.pm_base.specs.declared.rows.GiveRow.{GiveRow}
use Rattle.pm_base.specs.declared.rows.Parts.{Parts}
use Rattle.pm_base.specs.declared.rows.PutRow.{PutRow}
use Rattle.pm_base.specs.declared.rows.ReadRow.{ReadRow}
use Rattle.pm_base.specs.declared.stamp.Line.{Line}
use Rattle.pm_base.specs.declared.stamp.Num.{Num}
use Rattle.pm_base.specs.declared.stamp.Stamp.{Stamp}
use Rattle.pm_base.specs.declared.value.Change.{Change}
use Rattle.pm_base.specs.declared.value.Hit.{Hit}
use Rattle.pm_base.specs.declared.value.Query.{Query}
use Rattle.pm_base.specs.declared.value.Value.{Value}
use Rattle.pm_base.specs.declared.value.Window.{Window}
use Rattle.pm_base.specs.declared.value.Write.{Write}
use Rattle.pm_base.specs.Changes.{applied}
use Rattle.pm_base.specs.Layouts.{class_of, class_row}
use Rattle.pm_base.specs.Stamps.{IsBefore, is_below, num_eq}
use Rattle.pm_base.specs.Windows.{whole, IsPair}
use Rattle.pm_message.specs.Messages.{stamp_of}
use Rattle.pm_message.specs.declared.Message.{Message}
use Rattle.pm_model.specs.Hits.{hits}
use Rattle.pm_model.specs.declared.AgentState.{AgentState}
use Rattle.pm_model.specs.declared.State.{State}
use Rattle.pm_periods.specs.Records.{IsSettled, changed_of, given_when, hit_eq, last_give, record_value}
use Rattle.pm_periods.specs.Rows.{AreDistinct, cut_key, has_num, put_key, read_key}
use Rattle.pm_plan.specs.declared.plan.Plan.{Plan}
use Rattle.pm_alp.specs.Agents.{Rule, no_agent, step_of}
use Rattle.pm_sim.specs.Worlds.{rule_at}
use Rattle.pm_base.specs.declared.stamp.Line.TheVariants as line
use Rattle.pm_base.specs.declared.value.Query.TheVariants as query
use Rattle.pm_message.specs.declared.Message.TheVariants as message
use Rattle.pm_step.specs.declared.Next.TheVariants as outcome

-- a fact holds of each element
abbrev pub Each : {X : Type 0} → (X → Type 0) → List X → Type 0
Each P xs = AllByRecursion P xs

-- the element stands in the list
abbrev pub In : {X : Type 0} → X → List X → Type 0
In x [] = ⊥
In x (y ∷ ys) = (x ≡ y) ⊎ In x ys

-- the first stamp is below the second or equal to it
abbrev pub AtMost : Stamp → Stamp → Type 0
AtMost a b = (a.time < b.time) ⊎ ((a.time ≡ b.time) × (a.agent ≤ b.agent))

-- the stamp is below the line
abbrev pub Past : Line → Stamp → Type 0
Past (line.At l) s = IsBefore s l
Past line.End s = Unit {0}

-- the stamp is not below the line
abbrev pub NotPast : Line → Stamp → Type 0
NotPast (line.At l) s = AtMost l s
NotPast line.End s = ⊥

-- one more where the test is true
abbrev pub one_if : Bool → ℕ → ℕ
one_if true n = suc n
one_if false n = n

-- how many elements pass the test
abbrev pub tally : {X : Type 0} → (X → Bool) → List X → ℕ
tally p [] = 0
tally p (x ∷ xs) = one_if (p x) (tally p xs)

-- the stamp of an agent at a time
abbrev pub st : ℕ → ℕ → Stamp
st t i = record { time = t; agent = i }

-- the least stamp above another
abbrev pub after : Stamp → Stamp
after s = record { time = s.time; agent = s.agent + 1 }

-- whether a stamp is below the line
abbrev pub is_past : Line → Stamp → Bool
is_past l s = is_below s l

-- a put of a record, as the Put that it came with
abbrev pub put_msg : ℕ → PutRow → Message
put_msg v r = message.Put r.num r.stamp v r.change

-- a cut of a record, as the Cut that it came with
abbrev pub cut_msg : ℕ → CutRow → Message
cut_msg v r = message.Cut r.num r.stamp v

-- a time, where it is within the horizon
abbrev pub within : ℕ → ℕ → Option ℕ
within h t = if nat_le t h then Some t else None

-- the state that is looked up past the last agent: retired, without registers
abbrev pub no_turn : AgentState
no_turn = record { regs = []; next = None }

-- how many variables the plan has
abbrev pub vars_of : Plan → ℕ
vars_of p = length p.vars

-- the class of a variable
abbrev pub class_at : Plan → ℕ → ℕ
class_at p v = class_of p.layout.classes v

-- a put with the number stands among these
abbrev pub has_put : Num → List PutRow → Bool
has_put n rs = has_num put_key n rs

-- a cut with the number stands among these
abbrev pub has_cut : Num → List CutRow → Bool
has_cut n rs = has_num cut_key n rs

-- a read with the number stands among these
abbrev pub has_read : Num → List ReadRow → Bool
has_read n rs = has_num read_key n rs

-- a read with this hit: unchanged where the hit is the same, else given the hit with a turn one higher
abbrev pub given : ReadRow → Option Value → ReadRow
given q h = given_when (not (hit_eq h q.hit)) h q

-- what is given of these reads: those whose hit changed
abbrev pub changed_gives : ℕ → Parts → List ReadRow → List GiveRow
changed_gives v r qs = changed_of v (record_value r) qs

-- what a read was given last
abbrev pub give_row : ℕ → ReadRow → GiveRow
give_row v q = last_give v q

-- what is known of a plan: its horizon is not the end of 64 bits, and its classes are ranges of its n variables
pub record PlanIs (p : Plan) (n : ℕ) : Type 0 where
  pub small : p.horizon < 2 ^ 64 - 1
  pub vars : vars_of p ≡ n
  pub range : (k : ℕ) → (class_row p.layout.classes k).first + (class_row p.layout.classes k).count ≤ n
  pub inside : (k v : ℕ) → v < n → class_at p v ≡ k → ((class_row p.layout.classes k).first ≤ v)
      × (v < (class_row p.layout.classes k).first + (class_row p.layout.classes k).count)
  pub of_range : (k v : ℕ) → (class_row p.layout.classes k).first ≤ v
      → v < (class_row p.layout.classes k).first + (class_row p.layout.classes k).count → class_at p v ≡ k

-- what a write makes of a pair of numbers of 64 bits is such a pair
abbrev pub IsWide : Change → Type 0
IsWide c = (v : Value) → IsPair v → IsPair (applied c v)

-- the number that a message was sent with first: that of a Wake, an Ask or a Put, or the one that it goes back to
abbrev pub num_of : Message → Num
num_of (message.Wake n s) = n
num_of (message.Ask n s q) = n
num_of (message.Put r_n r_t v r_c) = r_n
num_of (message.Cut r_n r_t v) = r_n
num_of (message.Give r) = r.num
num_of (message.Finish n s) = n
num_of (message.Move v s r) = record { agent = 0; seq = 0 }
num_of (message.Grow k s u w) = record { agent = 0; seq = 0 }

-- the message is a Put of the number
abbrev pub is_put : Num → Message → Bool
is_put n (message.Put r_n r_t v r_c) = num_eq n r_n
is_put n (message.Wake m s) = false
is_put n (message.Ask m s q) = false
is_put n (message.Cut r_n r_t v) = false
is_put n (message.Give r) = false
is_put n (message.Finish m s) = false
is_put n (message.Move v s r) = false
is_put n (message.Grow k s u w) = false

-- the message is a Cut of the number
abbrev pub is_cut : Num → Message → Bool
is_cut n (message.Cut r_n r_t v) = num_eq n r_n
is_cut n (message.Wake m s) = false
is_cut n (message.Ask m s q) = false
is_cut n (message.Put r_n r_t v r_c) = false
is_cut n (message.Give r) = false
is_cut n (message.Finish m s) = false
is_cut n (message.Move v s r) = false
is_cut n (message.Grow k s u w) = false

-- the numbers of the writes that a step ended with
abbrev pub act_nums : Option KeptAct → List Num
act_nums None = []
act_nums (Some a) = a.nums

-- the numbers of an agent's kept writes
abbrev pub write_nums : List KeptStep → List Num
write_nums [] = []
write_nums (s ∷ ss) = act_nums s.act ++ write_nums ss

-- how many kept writes of an agent have the number
abbrev pub kept_writes : Num → Agent → ℕ
kept_writes n a = tally (num_eq n) (write_nums a.steps)

-- the query names the variable, or its class
abbrev pub Names : Plan → Query → ℕ → Type 0
Names p (query.One u) v = u ≡ v
Names p (query.Class k w) v = (v < vars_of p) × (class_at p v ≡ k)

-- the window that a query asks for
abbrev pub window_of : Query → Window
window_of (query.One v) = whole
window_of (query.Class k w) = w

-- a message on its way goes back to what was issued
abbrev pub MailOk : Plan → List Message → Message → Type 0
MailOk p issued (message.Wake n s) = In (message.Wake n s) issued
MailOk p issued (message.Ask n s q) = In (message.Ask n s q) issued
MailOk p issued (message.Put r_n r_t v r_c) = In (put_msg v (record { num = r_n; stamp = r_t; change = r_c })) issued
MailOk p issued (message.Cut r_n r_t v) = (x : Change) × In (message.Put r_n r_t v x) issued
MailOk p issued (message.Give r) = (q : Query) × In (message.Ask r.num r.stamp q) issued × Names p q r.var
MailOk p issued (message.Finish n s) = (k : ℕ) × (w : Window) × In (message.Ask n s (query.Class k w)) issued
MailOk p issued (message.Move v s r) = Unit {0}
MailOk p issued (message.Grow k s u w) = Unit {0}

-- what a read was told: its turn and its hit, or 0 and None
pub record Told : Type 0 where
  pub turn : ℕ
  pub hit : Option Value

-- what the read of a number was told last, or 0 and None where the record doesn't have it
abbrev pub told : Num → List ReadRow → Told
told n [] = record { turn = 0; hit = None }
told n (r ∷ rs) = if num_eq n r.num then record { turn = r.turn; hit = r.hit } else told n rs

-- no two reads have the same number
abbrev pub NoTwice : List ReadRow → Type 0
NoTwice qs = AreDistinct read_key qs

-- a record is settled, and all its rows go back to what was issued and are not below the line
pub record RecOk (p : Plan) (issued : List Message) (l : Line) (v : ℕ) (r : Parts) : Type 0 where
  pub puts : (q : PutRow) → In q r.puts → In (put_msg v q) issued × NotPast l q.stamp
  pub cuts : (c : CutRow) → In c r.cuts → MailOk p issued (cut_msg v c) × NotPast l c.stamp
  pub reads : (q : ReadRow) → In q r.reads → (k : Query)
      × In (message.Ask q.num q.stamp k) issued × Names p k v × (q.window ≡ window_of k) × NotPast l q.stamp
  pub solid : IsSettled r

-- of two tellings of one read the first is earlier, or the same
abbrev pub Under : Told → Told → Type 0
Under a b = (a.turn < b.turn) ⊎ ((a.turn ≡ b.turn) × (a.hit ≡ b.hit))

-- what a Give tells
abbrev pub told_of : GiveRow → Told
told_of g = record { turn = g.turn; hit = g.hit }

-- what a sense holds for a variable
abbrev pub held : ℕ → List KeptHit → Told
held v ks = record { turn = kept_turn v ks; hit = kept_hit v ks }

-- what the record told a sense last (top) the sense holds (here), or it is on its way; nothing later is held or on its
-- way
pub record Agree (letters : List Message) (n : Num) (v : ℕ) (top here : Told) : Type 0 where
  pub under : Under here top
  pub gives : (g : GiveRow) → In (message.Give g) letters → g.num ≡ n → g.var ≡ v → Under (told_of g) top
  pub there : (here ≡ top)
      ⊎ ((g : GiveRow) × In (message.Give g) letters × (g.num ≡ n) × (g.var ≡ v) × (told_of g ≡ top))

-- the read of a sense at a variable: the record has it or it is still missing, and what it was told agrees with the
-- sense
pub record ReadOk (letters : List Message) (recs : ℕ → Parts) (missing : Type 0) (x : KeptSense) (v : ℕ) : Type 0 where
  pub asked : missing ⊎ (has_read x.num (recs v).reads ≡ true)
  pub agree : Agree letters x.num v (told x.num (recs v).reads) (held v x.hits)

-- the hits of a single read: one of its variable where it is complete, else none
abbrev pub ShapeOk : ℕ → Bool → List KeptHit → Type 0
ShapeOk v false hits = hits ≡ []
ShapeOk v true hits = (t : ℕ) × (h : Option Value) × (hits ≡ record { var = v; turn = t; hit = h } ∷ [])

-- the hits of a class query: of members of the class, rising from lo on
abbrev pub KeptOk : Plan → ℕ → ℕ → List KeptHit → Type 0
KeptOk p k lo [] = Unit {0}
KeptOk p k lo (h ∷ hs) = (lo ≤ h.var) × (h.var < vars_of p) × (class_at p h.var ≡ k) × KeptOk p k (suc h.var) hs

-- a kept sense of a query: its shape, and that each variable it asks for has the read, or is still to be asked; pend n
-- v says that an Ask of the class query n is still on its way to variable v, wait n that the query's end is on its way
abbrev pub QueryOk : Plan
    → List Message → (ℕ → Parts) → (Num → ℕ → Type 0) → (Num → Type 0) → ℕ → Stamp → KeptSense → Query → Type 0
QueryOk p letters recs pend wait n s x (query.One v) =
    (v < n) × ShapeOk v x.complete x.hits × ReadOk letters recs (In (message.Ask x.num s (query.One v)) letters) x v
QueryOk p letters recs pend wait n s x (query.Class k w) = KeptOk p k 0 x.hits × (x.complete ≡ false → wait x.num)
    × ((v : ℕ) → v < n → class_at p v ≡ k → ReadOk letters recs (pend x.num v) x v)

-- a kept sense was issued as an Ask, and is as its query says
pub record SenseOk (p : Plan) (issued letters : List Message) (recs : ℕ → Parts)
    (pend : Num → ℕ → Type 0) (wait : Num → Type 0) (n : ℕ) (s : Stamp) (x : KeptSense) : Type 0 where
  pub issue : In (message.Ask x.num s x.query) issued
  pub query : QueryOk p letters recs pend wait n s x x.query

-- the writes of a step were issued, each with its number, as Puts of that step's stamp
abbrev pub WritesOk : List Message → Stamp → List Num → List Write → Type 0
WritesOk issued s [] [] = Unit {0}
WritesOk issued s (m ∷ ms) (w ∷ ws) = In (message.Put m s w.var w.change) issued × WritesOk issued s ms ws
WritesOk issued s [] (w ∷ ws) = ⊥
WritesOk issued s (m ∷ ms) [] = ⊥

-- these senses are what the rule asks, one after another, each given the answers of those before it
abbrev pub Asked : Rule → Stamp → List ℤ → List (List Hit) → List KeptSense → Type 0
Asked p s regs done [] = Unit {0}
Asked p s regs done (x ∷ xs) =
    (step_of p s regs done ≡ outcome.Ask x.query) × Asked p s regs (done ++ answer x.hits ∷ []) xs

-- all senses but the last are complete, and the last is not
abbrev pub LastOpen : List KeptSense → Type 0
LastOpen [] = ⊥
LastOpen (x ∷ []) = x.complete ≡ false
LastOpen (x ∷ (y ∷ ys)) = (x.complete ≡ true) × LastOpen (y ∷ ys)

-- a step that acted is the rule's step on the answers of its complete senses, and its writes were issued
pub record Acted (issued : List Message) (prog : Rule) (regs : List ℤ) (s : KeptStep) (a : KeptAct) : Type 0 where
  pub complete : Each (λ (x : KeptSense). x.complete ≡ true) s.senses
  pub acts : step_of prog s.stamp regs (answers s.senses)
      ≡ outcome.Act (record { writes = a.entry.writes; regs = a.regs; wait = a.wait })
  pub entry : a.entry ≡ record { stamp = s.stamp; answers = answers s.senses; writes = a.entry.writes }
  pub writes : WritesOk issued s.stamp a.nums a.entry.writes

-- the awaited Wake has the next time, where there is one
abbrev pub Waits : ℕ → Option ℕ → Option Awaited → Type 0
Waits i None w = w ≡ None
Waits i (Some t) w = (n : Num) × (n.agent ≡ i) × (w ≡ Some (record { num = n; stamp = st t i }))

-- the kept steps from these registers and this next time on: each that acted is the rule's step, with the next time
-- after its wait; only the last may be open, and then no Wake is awaited
abbrev pub Chain : List Message → ℕ → Rule → ℕ → List ℤ → Option ℕ → List KeptStep → Option Awaited → Type 0
Chain issued h prog i regs next [] w = Waits i next w
Chain issued h prog i regs next (s ∷ ss) w =
    (t : ℕ) × (next ≡ Some t) × (s.stamp ≡ st t i) × Asked prog s.stamp regs [] s.senses ×
    (((s.act ≡ None) × (ss ≡ []) × (w ≡ None) × LastOpen s.senses)
    ⊎ ((a : KeptAct)
    × (s.act ≡ Some a) × Acted issued prog regs s a × Chain issued h prog i a.regs (within h (t + a.wait)) ss w))

-- the numbers of the kept senses, in order
abbrev pub sense_nums : List KeptStep → List Num
sense_nums [] = []
sense_nums (s ∷ ss) = map (λ (x : KeptSense). x.num) s.senses ++ sense_nums ss

-- the numbers rise, from lo on
abbrev pub Rises : ℕ → List Num → Type 0
Rises lo [] = Unit {0}
Rises lo (n ∷ ns) = (lo ≤ n.seq) × Rises (n.seq + 1) ns

-- an agent stands where the sequential run (t) has it at the line, followed by its kept steps, which are not below the
-- line
pub record AgentOk (p : Plan) (l : Line) (issued letters : List Message) (recs : ℕ → Parts)
    (pend : Num → ℕ → Type 0) (wait : Num → Type 0) (n i : ℕ) (t : AgentState) (a : Agent) : Type 0 where
  pub base : a.base ≡ t.regs
  pub low : (s : KeptStep) → In s a.steps → NotPast l s.stamp
  pub chain : Chain issued p.horizon (rule_at p i) i t.regs t.next a.steps a.awaited
  pub senses : (s : KeptStep)
      → In s a.steps → (x : KeptSense) → In x s.senses → SenseOk p issued letters recs pend wait n s.stamp x
  pub rises : Rises 0 (sense_nums a.steps)
  pub wake : (w : Awaited) → a.awaited ≡ Some w → In (message.Wake w.num w.stamp) letters

-- the agents, the records and the letters on their way stand for the sequential state q at the line; issued are all
-- Wakes, Asks and Puts that were ever sent
pub record Core (p : Plan) (l : Line) (q : State) (issued : List Message) (agents : List Agent)
    (recs : ℕ → Parts) (letters : List Message) (pend : Num → ℕ → Type 0) (wait : Num → Type 0) : Type 0 where
  pub same_agents : length agents ≡ length q.agents
  pub same_plan : length p.agents ≡ length q.agents
  pub same_vars : vars_of p ≡ length q.values
  pub pairs : (v : ℕ) → v < length q.values → IsPair (get_or q.values v no_value)
  pub base : (v : ℕ) → v < length q.values → get_or q.values v no_value ≡ (recs v).base
  pub agent : (i : ℕ) → i < length agents → AgentOk
      p l issued letters recs pend wait (length q.values) i (get_or q.agents i no_turn) (get_or agents i no_agent)
  -- numbers
  pub own : (m : Message) → In m issued → (num_of m).agent ≡ (stamp_of m).agent
  pub times : (m : Message) → In m issued → (stamp_of m).time ≤ p.horizon
  pub fresh : (m : Message) → In m issued
      → ((num_of m).agent < length agents) × ((num_of m).seq < (get_or agents (num_of m).agent no_agent).seq)
  pub unique : (m k : Message) → In m issued → In k issued → num_of m ≡ num_of k → m ≡ k
  pub wide : (n : Num) (s : Stamp) (v : ℕ) (c : Change) → In (message.Put n s v c) issued → IsWide c
  -- letters and records
  pub mail : (m : Message) → In m letters → MailOk p issued m × NotPast l (stamp_of m)
  pub rec : (v : ℕ) → RecOk p issued l v (recs v)
  -- a Put that was issued is on the way or received, once; it is kept, or exactly one Cut of it is on the way or
  -- received
  pub put_once : (v : ℕ) (r : PutRow) → In (put_msg v r) issued → NotPast l r.stamp
      → (v < length q.values)
      × (tally (is_put r.num) letters + tally (λ (k : PutRow). num_eq r.num k.num) (recs v).puts ≡ 1)
  pub cut_once : (v : ℕ) (r : PutRow) → In (put_msg v r) issued → NotPast l r.stamp
      → tally (is_cut r.num) letters + tally (λ (k : CutRow). num_eq r.num k.num) (recs v).cuts
      + kept_writes r.num (get_or agents r.num.agent no_agent) ≡ 1
