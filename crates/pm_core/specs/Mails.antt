-- The messages on their way between processes by number, as links between the processes of a plan.
use Rattle.std.specs.Prelude.{ℕ, zero, suc, ◌+◌, List, [], ◌∷◌, Option, Some, None, map}
use Rattle.pm_alp.specs.declared.agent.Awaited.{Awaited}
use Rattle.pm_message.specs.declared.Message.{Message}
use Rattle.pm_message.specs.declared.Message.TheVariants as message
use Rattle.pm_mail.specs.Links.{opened, posted}
use Rattle.pm_mail.specs.Links.{Link as Lane}
use Rattle.pm_plan.specs.declared.plan.AgentRow.{AgentRow}
use Rattle.pm_plan.specs.declared.plan.Plan.{Plan}
use Rattle.pm_queries.specs.declared.registered.Sent.{Sent}
use Rattle.pm_sim.specs.Worlds.{Link, clps_of, first_actor, home, ports, process}

-- a link by the processes of its numbers
abbrev pub link_of : Plan → Lane → Link
link_of p l = record { to = process p l.to; from = process p l.from; messages = l.messages }

-- links by the processes of their numbers
abbrev pub links_of : Plan → List Lane → List Link
links_of p ls = map (link_of p) ls

-- what a communication process sends goes to the ends of its links, in order
abbrev pub posted_all : ℕ → List Sent → List Lane → List Lane
posted_all from [] ls = ls
posted_all from (s ∷ ss) ls = posted_all from ss (posted s.to from s.message ls)

-- the process for which an agent's message is: its own for a Wake, its home's for every other
abbrev pub receiver : ℕ → ℕ → Message → ℕ
receiver own home (message.Wake n s) = own
receiver own home (message.Ask n s q) = home
receiver own home (message.Put n s v c) = home
receiver own home (message.Cut n s v) = home
receiver own home (message.Give r) = home
receiver own home (message.Finish n s) = home
receiver own home (message.Move v s r) = home
receiver own home (message.Grow k s u w) = home

-- what an agent sends goes to the ends of its links, in order
abbrev pub told_all : ℕ → ℕ → List Message → List Lane → List Lane
told_all own home [] ls = ls
told_all own home (m ∷ ms) ls = told_all own home ms (posted (receiver own home m) own m ls)

-- the links to a process from these, each opened where it isn't there yet
abbrev pub opened_all : ℕ → List ℕ → List Lane → List Lane
opened_all to [] ls = ls
opened_all to (d ∷ ds) ls = opened_all to ds (opened to d ls)

-- the links between n communication processes and their neighbours, from number c on
abbrev pub opened_tree : Plan → ℕ → ℕ → List Lane → List Lane
opened_tree p c zero ls = ls
opened_tree p c (suc n) ls = opened_tree p (suc c) n (opened_all c (ports p c) ls)

-- an agent's first Wake in its own link, where it has one
abbrev pub woken : ℕ → Option Message → List Lane → List Lane
woken own None ls = ls
woken own (Some m) ls = posted own own m ls

-- an agent's links: to its home, back from it, and its own, with its first Wake
abbrev pub opened_agent : ℕ → ℕ → Option Message → List Lane → List Lane
opened_agent own home wake ls = woken own wake (opened own own (opened own home (opened home own ls)))

-- the message of an awaited Wake, where there is one
abbrev pub wake_at : Option Awaited → Option Message
wake_at None = None
wake_at (Some w) = Some (message.Wake w.num w.stamp)

-- the links of these agents, the first of them agent i, with their first Wakes
abbrev pub opened_agents : Plan → ℕ → List AgentRow → List Lane → List Lane
opened_agents p i [] ls = ls
opened_agents p i (a ∷ more) ls = opened_agents p (suc i) more
    (opened_agent (clps_of p + i) (home p i) (wake_at (first_actor p i a).awaited) ls)

-- the messages on their way at first
abbrev pub first_mail : Plan → List Lane
first_mail p = opened_agents p 0 p.agents (opened_tree p 0 (clps_of p) [])
