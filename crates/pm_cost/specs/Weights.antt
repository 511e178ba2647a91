-- What a message, a registered query and a record may still cost, in deliveries, where nothing is rolled back.
use Rattle.std.specs.Prelude.{ℕ, ◌+◌, ◌*◌, ◌<◌, ◌≤◌, ◌==◌, ◌≡◌, Bool, false, not, ◌&&◌, ◌||◌}
use Rattle.std.specs.Prelude.{if◌then◌else◌, List, [], ◌∷◌, get_or, length, Option, Some, None}
use Rattle.pm_base.specs.declared.rows.Parts.{Parts}
use Rattle.pm_base.specs.declared.rows.PutRow.{PutRow}
use Rattle.pm_base.specs.declared.stamp.Num.{Num}
use Rattle.pm_base.specs.declared.stamp.Stamp.{Stamp}
use Rattle.pm_base.specs.declared.value.Query.TheVariants as query
use Rattle.pm_base.specs.declared.value.Window.{Window}
use Rattle.pm_message.specs.declared.Message.{Message}
use Rattle.pm_message.specs.declared.Message.TheVariants as message
use Rattle.pm_plan.specs.Plans.{parents}
use Rattle.pm_plan.specs.Trees.{hop}
use Rattle.pm_plan.specs.declared.plan.Plan.{Plan}
use Rattle.pm_queries.specs.Queries.{has}
use Rattle.pm_queries.specs.declared.registered.Registered.{Registered}
use Rattle.pm_queries.specs.declared.registered.Sent.{Sent}
use Rattle.pm_clp.specs.Clps.{ClpState, clp_after, rec_at, telling, watch_all}
use Rattle.pm_sim.specs.Reached.{Reached}
use Rattle.pm_sim.specs.Sims.{In, has_read, one_if, vars_of}
use Rattle.pm_sim.specs.Worlds.{Process, World, clps_of, home, hub_of, no_clp, ports, process}
use Rattle.pm_sim.specs.Worlds.Process.{AtAgent, AtClp}
use Rattle.pm_calm.specs.Phases.{RecAt}
use Rattle.pm_cost.specs.Spending.{total, waits_rest}

-- communication process x is behind d's port e
abbrev pub behind : Plan → ℕ → ℕ → ℕ → Bool
behind p d e x = not (x == d) && (hop (parents p.clps) d x == e)

-- how many communication processes are behind d's port e
abbrev pub side : Plan → ℕ → ℕ → ℕ
side p d e = total (clps_of p) (λ x. one_if (behind p d e x) 0)

-- how many are behind these ports of d together
abbrev pub sides : Plan → ℕ → List ℕ → ℕ
sides p d [] = 0
sides p d (e ∷ es) = side p d e + sides p d es

-- how many may still be before a message to a process from a process: those behind the port that it goes over, or all
-- where it comes from an agent
abbrev pub away : Plan → Process → Process → ℕ
away p (AtClp e) (AtClp d) = side p d e
away p (AtClp e) (AtAgent a) = clps_of p
away p (AtAgent a) f = 0

-- how many may still be before a hit at communication process e, on its way to agent a
abbrev pub homewards : Plan → ℕ → ℕ → ℕ
homewards p e a = if e == home p a then 0 else side p e (hop (parents p.clps) e (home p a))

-- what a hit for agent a may still cost, on its way to a process
abbrev pub hit_weight : Plan → Process → ℕ → ℕ
hit_weight p (AtClp e) a = 2 + homewards p e a
hit_weight p (AtAgent b) a = 1

-- what a message may still cost, with all that comes of it: a read of a variable its way, a hit's way home and a Move;
-- a write its way, the Grows and a Move; a range query's Ask an Ask and a Finish for each process that it comes to
abbrev pub weight : Plan → Process → Process → Message → ℕ
weight p to from (message.Ask k z (query.One v)) = away p to from + clps_of p + 1
weight p to from (message.Ask k z (query.Class j u)) = 2 * away p to from
weight p to from (message.Put n z v c) = away p to from + clps_of p
weight p to from (message.Give g) = hit_weight p to g.num.agent
weight p to from (message.Grow k z u w) = away p to from
weight p to from (message.Move v z r) = 1
weight p to from (message.Finish k z) = 1
weight p to from (message.Wake k z) = 0
weight p to from (message.Cut n z v) = 0

-- what all that communication process c sends may still cost
abbrev pub weights : Plan → ℕ → List Sent → ℕ
weights p c [] = 0
weights p c (y ∷ ys) = weight p (process p y.to) (AtClp c) y.message + weights p c ys

-- what a registered query may still cost at ports of c that it was not sent to, should it be sent there later
abbrev pub late : Plan → ℕ → Registered → List ℕ → ℕ
late p c r [] = 0
late p c r (d ∷ ds) = (if r.from == d || has d r.sent then 0 else 2 * side p c d) + late p c r ds

-- what a query that is registered at c may still cost: its Finish, and what comes of ports that it was not sent to
abbrev pub reg_weight : Plan → ℕ → Registered → ℕ
reg_weight p c r = waits_rest r.waits + late p c r (ports p c)

-- what all these queries may still cost
abbrev pub regs_weight : Plan → ℕ → List Registered → ℕ
regs_weight p c [] = 0
regs_weight p c (r ∷ rs) = reg_weight p c r + regs_weight p c rs

-- a record is here that doesn't have the read
abbrev pub is_unread : Num → Option Parts → Bool
is_unread m None = false
is_unread m (Some r) = not (has_read m r.reads)

-- how many records are here that don't have the read
abbrev pub unread : Num → List (Option Parts) → ℕ
unread m [] = 0
unread m (r ∷ rs) = one_if (is_unread m r) (unread m rs)

-- all puts of the variable's record here have the stamp
abbrev pub PutsAt : Stamp → ℕ → ClpState → Type 0
PutsAt s v x = (r : Parts) → rec_at x.records v ≡ Some r → (y : PutRow) → In y r.puts → y.stamp ≡ s

-- where all puts of a variable's record at c have the stamp of the last one, all that is told of it, with what comes of
-- that, costs fewer deliveries than there are communication processes
abbrev pub TellingCosts : Plan → Type 0
TellingCosts p = (c v : ℕ) (s : Stamp) (x : ClpState) → c < clps_of p → PutsAt s v x
    → weights p c (telling (hub_of p c) v s x).sent < clps_of p

-- a Grow that comes from a neighbour costs one delivery more than all that comes of it
abbrev pub GrowCosts : Plan → Type 0
GrowCosts p = (c d k : ℕ) (z : Stamp) (until : Option Stamp) (u : Window) (x : ClpState)
    → d < clps_of p → In c (ports p d)
    → weights p c (clp_after (hub_of p c) d (message.Grow k z until u) x).sent
    + regs_weight p c (clp_after (hub_of p c) d (message.Grow k z until u) x).clp.queries
    < weight p (AtClp c) (AtClp d) (message.Grow k z until u) + regs_weight p c x.queries

-- no range query is over
abbrev pub none_over : Num → ℕ → Window → Type 0
none_over k j u = ⊥

-- the records here are settled, and their writes and reads are all of one moment
abbrev pub AllOfMoment : Plan → Stamp → ClpState → Type 0
AllOfMoment p s x = (v : ℕ) (r : Parts) → rec_at x.records v ≡ Some r → RecAt p s none_over v r

-- where all is of one moment, the hits of a range query of that moment, with all that comes of them, cost at most as
-- many deliveries as there are communication processes for each record that didn't have the read and now has it
abbrev pub HitsCost : Plan → Type 0
HitsCost p = (c : ℕ) (s : Stamp) (k : Num) (u : Window) (i m : ℕ) (x : ClpState) → c < clps_of p
    → k.agent < length p.agents → AllOfMoment p s x
    → weights p c (watch_all (hub_of p c) k s u i m x).sent
    + clps_of p * unread k (watch_all (hub_of p c) k s u i m x).clp.records
    ≤ clps_of p * unread k x.records

-- the records at all communication processes that don't have the read are no more than there are variables
abbrev pub UnreadAreFew : Plan → ℕ → World → Num → Type 0
UnreadAreFew p n w m = Reached p n w → total (clps_of p) (λ c. unread m (get_or w.clps c no_clp).records) ≤ vars_of p
