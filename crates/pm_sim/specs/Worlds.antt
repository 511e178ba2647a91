-- The world: a state per process, a list of messages per link, and a line; its events and its runs.
use Rattle.pm_queries.specs.declared.registered.Sent.{Sent}
use Rattle.pm_alp.specs.declared.agent.Awaited.{Awaited}
use Rattle.pm_alp.specs.declared.agent.Agent.{Agent}
use Rattle.pm_saved.specs.Steps.{hand_out}
use Rattle.std.specs.Prelude.{ℕ, zero, suc, ◌+◌, ◌-◌, ◌==◌, nat_lt, Bool, true, false, not, ◌&&◌}
use Rattle.std.specs.Prelude.{if◌then◌else◌, List, [], ◌∷◌, ◌++◌, map, length, get_or, set, Option, Some, None}
use Rattle.std.specs.List.{flat_map}
use Rattle.pm_base.specs.Stamps.{least_line_of, line_lt, stamp_lt}
use Rattle.pm_base.specs.declared.program.RegRow.{RegRow}
use Rattle.pm_base.specs.declared.rows.Entry.{Entry}
use Rattle.pm_base.specs.declared.run.Event.{Event}
use Rattle.pm_base.specs.declared.run.Event.TheVariants as event
use Rattle.pm_base.specs.declared.stamp.Line.{Line}
use Rattle.pm_base.specs.declared.stamp.Line.TheVariants as line
use Rattle.pm_base.specs.declared.stamp.Stamp.{Stamp}
use Rattle.pm_message.specs.Messages.{stamp_of}
use Rattle.pm_message.specs.declared.Message.{Message}
use Rattle.pm_message.specs.declared.Message.TheVariants as message
use Rattle.pm_model.specs.Runs.{due}
use Rattle.pm_plan.specs.Plans.{parents}
use Rattle.pm_plan.specs.Trees.{edge, hop}
use Rattle.pm_plan.specs.declared.plan.AgentRow.{AgentRow}
use Rattle.pm_plan.specs.declared.plan.Plan.{Plan}
use Rattle.pm_plan.specs.declared.plan.VarRow.{VarRow}
use Rattle.pm_routes.specs.Routings.{Routing, routing}
use Rattle.pm_routes.specs.declared.way.Way.{Way}
use Rattle.pm_routes.specs.declared.way.Way.TheVariants as way
use Rattle.pm_alp.specs.Agents.{Actor, Rule, Sends, agent_after, agent_committed, no_agent, step_of, wake_of}
use Rattle.pm_clp.specs.Clps.{ClpSends, ClpState, Hub, clp_after, clp_committed, first_clp}

-- a process by its kind: the communication process of a number, or the agent of a number
pub data Process : Type 0 where
  AtClp : ℕ → Process
  AtAgent : ℕ → Process

-- two processes are the same
abbrev pub is_process : Process → Process → Bool
is_process (AtClp c) (AtClp d) = c == d
is_process (AtClp c) (AtAgent a) = false
is_process (AtAgent a) (AtClp c) = false
is_process (AtAgent a) (AtAgent b) = a == b

-- a message on its way, with its receiver and its sender
pub record Mail : Type 0 where
  pub to : Process
  pub from : Process
  pub message : Message

-- a link: its receiver, its sender, and the messages on it, the next to be taken first
pub record Link : Type 0 where
  pub to : Process
  pub from : Process
  pub messages : List Message

-- a world: the state of each communication process and of each agent by number, the links, and the line, below which
-- all is committed
pub record World : Type 0 where
  pub clps : List ClpState
  pub agents : List Agent
  pub links : List Link
  pub line : Line

-- the row that is looked up past the last agent
abbrev pub no_row : AgentRow
no_row = record { name = []; home = 0; start = 0; program = record { regs = []; senses = []; body = [] } }

-- the row of an agent in the plan
abbrev pub agent_at : Plan → ℕ → AgentRow
agent_at p i = get_or p.agents i no_row

-- the communication process that an agent is homed at
abbrev pub home : Plan → ℕ → ℕ
home p a = (agent_at p a).home

-- how many communication processes the plan has
abbrev pub clps_of : Plan → ℕ
clps_of p = length p.clps

-- processes by number: the communication processes first, then the agents
abbrev pub process : Plan → ℕ → Process
process p k = if nat_lt k (clps_of p) then AtClp k else AtAgent (k - clps_of p)

-- the number of a process
abbrev pub number : Plan → Process → ℕ
number p (AtClp c) = c
number p (AtAgent a) = clps_of p + a

-- of the n numbers from i on, those whose communication process is joined to c by an edge of the tree
abbrev pub edges : List (Option ℕ) → ℕ → ℕ → ℕ → List ℕ
edges ps c i zero = []
edges ps c i (suc n) = if edge ps c i then i ∷ edges ps c (suc i) n else edges ps c (suc i) n

-- the neighbours of a communication process in the tree, ascending
abbrev pub ports : Plan → ℕ → List ℕ
ports p c = edges (parents p.clps) c 0 (clps_of p)

-- the process to which c sends what is for agent a, whose home is h: the agent itself at its home, else the next
-- communication process on the way there
abbrev pub towards : Plan → ℕ → ℕ → ℕ → ℕ
towards p c a h = if c == h then clps_of p + a else hop (parents p.clps) c h

-- for each agent from number i on, the process to which c sends what is for it
abbrev pub to_agents : Plan → ℕ → ℕ → List AgentRow → List ℕ
to_agents p c i [] = []
to_agents p c i (r ∷ rs) = towards p c i r.home ∷ to_agents p c (suc i) rs

-- what the plan fixes of a communication process
abbrev pub hub_of : Plan → ℕ → Hub
hub_of p c = record { ports = ports p c; to_agents = to_agents p c 0 p.agents; classes = p.layout.classes }

-- the rule of an agent's row, with the classes that it speaks of
abbrev pub rule_of : Plan → AgentRow → Rule
rule_of p r = record { program = r.program; classes = p.layout.classes }

-- the rule of an agent
abbrev pub rule_at : Plan → ℕ → Rule
rule_at p i = rule_of p (agent_at p i)

-- what the plan fixes of an agent
abbrev pub actor_of : Plan → ℕ → Actor
actor_of p a = record { agent = a; horizon = p.horizon; acts = step_of (rule_at p a) }

-- the link goes to that process from that one
abbrev pub is_link : Process → Process → Link → Bool
is_link to from l = is_process l.to to && is_process l.from from

-- the message goes to the end of its link
abbrev pub post : Process → Process → Message → List Link → List Link
post to from m [] = record { to = to; from = from; messages = m ∷ [] } ∷ []
post to from m (l ∷ ls) =
    if is_link to from l then record l { messages = l.messages ++ m ∷ [] } ∷ ls else l ∷ post to from m ls

-- a message with the process that it is sent to
pub record Posted : Type 0 where
  pub to : Process
  pub message : Message

-- the messages go to the ends of their links, in order
abbrev pub post_all : Process → List Posted → List Link → List Link
post_all from [] ls = ls
post_all from (s ∷ ss) ls = post_all from ss (post s.to from s.message ls)

-- a message that was taken from its link, and the links after that
pub record Taken : Type 0 where
  pub message : Message
  pub links : List Link

-- with one more link before the others
abbrev pub link_in_front : Link → Option Taken → Option Taken
link_in_front l None = None
link_in_front l (Some t) = Some (record t { links = l ∷ t.links })

-- the first message of a link, where there is one, and the links without it
abbrev pub take_first : Link → List Link → List Message → Option Taken
take_first l ls [] = None
take_first l ls (m ∷ ms) = Some (record { message = m; links = record l { messages = ms } ∷ ls })

-- the first message of the link between two processes, where there is one, and the links without it
abbrev pub take_from : Process → Process → List Link → Option Taken
take_from to from [] = None
take_from to from (l ∷ ls) =
    if is_link to from l then take_first l ls l.messages else link_in_front l (take_from to from ls)

-- the ways and counts that are looked up past the last communication process
abbrev pub no_routing : Routing
no_routing = routing [] [] 0 []

-- the state that is looked up past the last communication process
abbrev pub no_clp : ClpState
no_clp = record { records = []; routing = no_routing; line = line.End; queries = []; bound = []; told = [] }

-- where an agent sends a message: a Wake to itself, every other to its home
abbrev pub addressed : ℕ → ℕ → Message → Posted
addressed a h (message.Wake n s) = record { to = AtAgent a; message = message.Wake n s }
addressed a h (message.Ask n s q) = record { to = AtClp h; message = message.Ask n s q }
addressed a h (message.Put n s v c) = record { to = AtClp h; message = message.Put n s v c }
addressed a h (message.Cut n s v) = record { to = AtClp h; message = message.Cut n s v }
addressed a h (message.Give r) = record { to = AtClp h; message = message.Give r }
addressed a h (message.Finish n s) = record { to = AtClp h; message = message.Finish n s }
addressed a h (message.Move v s r) = record { to = AtClp h; message = message.Move v s r }
addressed a h (message.Grow k s u w) = record { to = AtClp h; message = message.Grow k s u w }

-- what a communication process sends, to a process by number, with that process
abbrev pub posted : Plan → Sent → Posted
posted p s = record { to = process p s.to; message = s.message }

-- the world after a message reached its receiver: what it becomes, and what it sends at the ends of its links
abbrev pub arrives : Plan → World → Process → Process → Message → List Link → World
arrives p w (AtClp c) from m ls =
    let r : ClpSends = clp_after (hub_of p c) (number p from) m (get_or w.clps c no_clp) in
    record w { clps = set w.clps c r.clp; links = post_all (AtClp c) (map (posted p) r.sent) ls }
arrives p w (AtAgent a) from m ls =
    let r : Sends = agent_after (actor_of p a) (get_or w.agents a no_agent) m in
    record w { agents = set w.agents a r.agent; links = post_all (AtAgent a) (map (addressed a (home p a)) r.sent) ls }

-- the world after a delivery, where a message was there to take
abbrev pub delivered : Plan → World → Process → Process → Option Taken → World
delivered p w to from None = w
delivered p w to from (Some t) = arrives p w to from t.message t.links

-- the world after the first message of a link was delivered
abbrev pub deliver : Plan → World → Process → Process → World
deliver p w to from = delivered p w to from (take_from to from w.links)

-- the messages of one link, with its receiver and its sender
abbrev pub mail_of : Link → List Mail
mail_of l = map (λ (m : Message). record { to = l.to; from = l.from; message = m }) l.messages

-- all messages on their way
abbrev pub mail : List Link → List Mail
mail ls = flat_map mail_of ls

-- the stamp of a message on its way
abbrev pub mail_stamp : Mail → Stamp
mail_stamp m = stamp_of m.message

-- the least line: the line of the least stamp of all messages on their way, or the end where there are none
abbrev pub least_line : World → Line
least_line w = least_line_of (map mail_stamp (mail w.links))

-- a line is at most another
abbrev pub line_le : Line → Line → Bool
line_le a b = not (line_lt b a)

-- a Commit may stand at a line that is at least the world's and at most the least line
abbrev pub may_commit : World → Line → Bool
may_commit w l = line_le w.line l && line_le l (least_line w)

-- an entry at its place by stamp
abbrev pub add_entry : Entry → List Entry → List Entry
add_entry e [] = e ∷ []
add_entry e (x ∷ xs) = if stamp_lt e.stamp x.stamp then e ∷ (x ∷ xs) else x ∷ add_entry e xs

-- entries in order of stamp
abbrev pub in_order : List Entry → List Entry
in_order [] = []
in_order (e ∷ es) = add_entry e (in_order es)

-- what a Commit at a line hands out: the entries of all kept steps below it, in order of stamp
abbrev pub handed : World → Line → List Entry
handed w l = in_order (flat_map (λ (a : Agent). hand_out l a.steps) w.agents)

-- the world after a Commit at a line: each process has handed out and let go what is below it
abbrev pub commit : World → Line → World
commit w l = record {
  clps = map (clp_committed l) w.clps;
  agents = map (agent_committed l) w.agents;
  links = w.links;
  line = l;
}

-- the world after an event: a delivery on a link, or a Commit
abbrev pub after_event : Plan → World → Event → World
after_event p w (event.Deliver to from) = deliver p w (process p to) (process p from)
after_event p w (event.Commit l) = commit w l

-- what an event hands out
abbrev pub hands : World → Event → List Entry
hands w (event.Deliver to from) = []
hands w (event.Commit l) = handed w l

-- the world after a list of events
abbrev pub after_events : Plan → World → List Event → World
after_events p w [] = w
after_events p w (e ∷ es) = after_events p (after_event p w e) es

-- what a list of events hands out from a world on, in order
abbrev pub committed_from : Plan → World → List Event → List Entry
committed_from p w [] = []
committed_from p w (e ∷ es) = hands w e ++ committed_from p (after_event p w e) es

-- a message was there to take
abbrev pub has_mail : Option Taken → Bool
has_mail None = false
has_mail (Some t) = true

-- an event is legal: a delivery where its link has a message, a Commit where one may stand
abbrev pub is_legal : Plan → World → Event → Bool
is_legal p w (event.Deliver to from) = has_mail (take_from (process p to) (process p from) w.links)
is_legal p w (event.Commit l) = may_commit w l

-- a list of events is a legal run: each is legal in the world that those before it leave
abbrev pub is_legal_run : Plan → World → List Event → Bool
is_legal_run p w [] = true
is_legal_run p w (e ∷ es) = is_legal p w e && is_legal_run p (after_event p w e) es

-- the Wake that an agent awaits at first: at its start, where that is within the horizon
abbrev pub first_awaited : ℕ → Option ℕ → Option Awaited
first_awaited i None = None
first_awaited i (Some t) = Some (record { num = record { agent = i; seq = 0 }; stamp = record { time = t; agent = i } })

-- the next number of an agent at first
abbrev pub first_seq : Option ℕ → ℕ
first_seq None = 0
first_seq (Some t) = 1

-- an agent at first: its declared registers, no kept step, and its first Wake
abbrev pub first_actor : Plan → ℕ → AgentRow → Agent
first_actor p i a = record {
  base = map (λ (r : RegRow). r.start) a.program.regs;
  steps = [];
  awaited = first_awaited i (due p a.start);
  seq = first_seq (due p a.start);
}

-- the agents at first, from number i on
abbrev pub first_actors : Plan → ℕ → List AgentRow → List Agent
first_actors p i [] = []
first_actors p i (a ∷ more) = first_actor p i a ∷ first_actors p (suc i) more

-- the links of the agents from number i on: to the home, back from it, and the agent's own with its first Wake
abbrev pub agent_links : Plan → ℕ → List Agent → List Link
agent_links p i [] = []
agent_links p i (a ∷ more) =
    record { to = AtClp (home p i); from = AtAgent i; messages = [] }
    ∷ (record { to = AtAgent i; from = AtClp (home p i); messages = [] }
    ∷ (record { to = AtAgent i; from = AtAgent i; messages = wake_of a.awaited }
    ∷ agent_links p (suc i) more))

-- the links of n communication processes from c on, from each of their neighbours
abbrev pub tree_links : Plan → ℕ → ℕ → List Link
tree_links p c zero = []
tree_links p c (suc n) =
    map (λ d. record { to = AtClp c; from = AtClp d; messages = [] }) (ports p c) ++ tree_links p (suc c) n

-- where a communication process looks for a variable at first: here, or towards the place that the plan gives it
abbrev pub first_way : Plan → ℕ → VarRow → Way
first_way p c v = if v.at == c then way.Here else way.Port (hop (parents p.clps) c v.at)

-- a communication process at first
abbrev pub clp_first : Plan → ℕ → ClpState
clp_first p c = first_clp (hub_of p c) (map (first_way p c) p.vars) (map (λ (v : VarRow). v.value) p.vars) p.move_after

-- n communication processes at first, from number c on
abbrev pub first_clps : Plan → ℕ → ℕ → List ClpState
first_clps p c zero = []
first_clps p c (suc n) = clp_first p c ∷ first_clps p (suc c) n

-- the line that nothing is below
abbrev pub zero_line : Line
zero_line = line.At (record { time = 0; agent = 0 })

-- the first world of a plan: nothing is committed, and each agent's first Wake is on its way
abbrev pub first_world : Plan → World
first_world p = record {
  clps = first_clps p 0 (clps_of p);
  agents = first_actors p 0 p.agents;
  links = tree_links p 0 (clps_of p) ++ agent_links p 0 (first_actors p 0 p.agents);
  line = zero_line;
}

-- what the Commits of a run from the first world hand out, in order
abbrev pub committed : Plan → List Event → List Entry
committed p es = committed_from p (first_world p) es
