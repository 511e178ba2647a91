-- A sum over the entries of the sequential run, to hold the deliveries of the lowest run against. That the lowest run
-- keeps to it isn't proved here.
use Rattle.std.specs.Prelude.{ℕ, suc, ◌+◌, ◌*◌, ◌≤◌, List, [], ◌∷◌, length, ℤ}
use Rattle.pm_base.specs.declared.program.Sense.{Sense}
use Rattle.pm_base.specs.declared.program.Sense.TheVariants.{Read, Scan}
use Rattle.pm_base.specs.declared.program.SenseRow.{SenseRow}
use Rattle.pm_base.specs.declared.rows.Entry.{Entry}
use Rattle.pm_base.specs.declared.stamp.Stamp.{Stamp}
use Rattle.pm_base.specs.declared.value.Query.{Query}
use Rattle.pm_base.specs.declared.value.Query.TheVariants as query
use Rattle.pm_model.specs.Runs.{sequential_run}
use Rattle.pm_plan.specs.declared.plan.Plan.{Plan}
use Rattle.pm_saved.specs.declared.kept.KeptSense.{KeptSense}
use Rattle.pm_alp.specs.Agents.{Rule}
use Rattle.pm_sim.specs.Sims.{Asked, vars_of}
use Rattle.pm_sim.specs.Worlds.{agent_at, clps_of}

-- one single read more, where the sense is one
abbrev pub one_read : Sense → ℕ → ℕ
one_read (Read place) n = suc n
one_read (Scan class x0 x1 y0 y1) n = n

-- one range query more, where the sense is one
abbrev pub one_scan : Sense → ℕ → ℕ
one_scan (Read place) n = n
one_scan (Scan class x0 x1 y0 y1) n = suc n

-- how many single reads these senses are
abbrev pub reads_of : List SenseRow → ℕ
reads_of [] = 0
reads_of (x ∷ xs) = one_read x.sense (reads_of xs)

-- how many range queries these senses are
abbrev pub scans_of : List SenseRow → ℕ
scans_of [] = 0
scans_of (x ∷ xs) = one_scan x.sense (scans_of xs)

-- the share of a step of so many single reads, range queries and writes: one for its Wake, and for n communication
-- processes and v variables 2n + 2 for each single read and each write, and (v + 2)(n + 1) for each range query
abbrev pub step_cost : ℕ → ℕ → ℕ → ℕ → ℕ → ℕ
step_cost n v reads scans writes =
    1 + (reads * (2 * n + 2) + (scans * ((v + 2) * (n + 1)) + writes * (2 * n + 2)))

-- what the senses of the agent with this number are
abbrev pub senses_at : Plan → ℕ → List SenseRow
senses_at p a = (agent_at p a).program.senses

-- the share of an entry: it has as many single reads and range queries as its agent's program
abbrev pub cost_of : Plan → Entry → ℕ
cost_of p e = step_cost (clps_of p) (vars_of p)
    (reads_of (senses_at p e.stamp.agent)) (scans_of (senses_at p e.stamp.agent)) (length e.writes)

-- the shares of these entries together
abbrev pub cost_sum : Plan → List Entry → ℕ
cost_sum p [] = 0
cost_sum p (e ∷ es) = cost_of p e + cost_sum p es

-- the shares of all entries of a plan's sequential run
abbrev pub bound_of : Plan → ℕ
bound_of p = cost_sum p (sequential_run p)

-- one single read more, where the query is one
abbrev pub one_single : Query → ℕ → ℕ
one_single (query.One v) n = suc n
one_single (query.Class k w) n = n

-- one range query more, where the query is one
abbrev pub one_range : Query → ℕ → ℕ
one_range (query.One v) n = n
one_range (query.Class k w) n = suc n

-- how many single reads these kept senses are
abbrev pub singles_of : List KeptSense → ℕ
singles_of [] = 0
singles_of (x ∷ xs) = one_single x.query (singles_of xs)

-- how many range queries these kept senses are
abbrev pub ranges_of : List KeptSense → ℕ
ranges_of [] = 0
ranges_of (x ∷ xs) = one_range x.query (ranges_of xs)

-- what a rule has asked in a step is no more than its program has: no more single reads, and no more range queries
abbrev pub AsksNoMore : Rule → Stamp → List ℤ → List KeptSense → Type 0
AsksNoMore r s regs xs = Asked r s regs [] xs → (singles_of xs ≤ reads_of r.program.senses)
    × (ranges_of xs ≤ scans_of r.program.senses)
