-- What the steps of a run access, and from where.
use Rattle.std.specs.Prelude.{ℕ, List, [], ◌∷◌, ◌++◌, map, Option, Some, None, slice_get}
use Rattle.std.specs.List.{flat_map}
use Rattle.pm_base.specs.declared.program.Sense.{Sense}
use Rattle.pm_base.specs.declared.program.Sense.TheVariants.{Read, Scan}
use Rattle.pm_base.specs.declared.program.SenseRow.{SenseRow}
use Rattle.pm_base.specs.declared.rows.Entry.{Entry}
use Rattle.pm_base.specs.declared.value.Hit.{Hit}
use Rattle.pm_base.specs.declared.value.Write.{Write}
use Rattle.pm_plan.specs.declared.plan.AgentRow.{AgentRow}
use Rattle.pm_plan.specs.declared.plan.Plan.{Plan}
use Rattle.pm_model.specs.Runs.{sequential_run}

-- a variable that a step reads or writes, and the communication process that the step's agent is at
pub record Access : Type 0 where
  pub var : ℕ
  pub home : ℕ

-- the variable that answered a sense: that of a `read`; a `scan` accesses no variable
abbrev pub read_of : Sense → List Hit → List ℕ
read_of (Read place) [] = []
read_of (Read place) (h ∷ hs) = h.var ∷ []
read_of (Scan class x0 x1 y0 y1) hits = []

-- the variables that answered these senses, each with its answer in order
abbrev pub reads : List SenseRow → List (List Hit) → List ℕ
reads [] answers = []
reads (row ∷ rows) [] = []
reads (row ∷ rows) (hits ∷ answers) = read_of row.sense hits ++ reads rows answers

-- the variables that these writes go to
abbrev pub targets : List Write → List ℕ
targets ws = map (λ (w : Write). w.var) ws

-- these variables are accessed from that process
abbrev pub from : ℕ → List ℕ → List Access
from home vars = map (λ v. record { var = v; home = home }) vars

-- what a step of the agent of that row accesses: what its rule's senses read, then what it writes
abbrev pub accesses_of : Option AgentRow → Entry → List Access
accesses_of None e = []
accesses_of (Some row) e = from row.home (reads row.program.senses e.answers ++ targets e.writes)

-- what a step accesses
abbrev pub accesses : Plan → Entry → List Access
accesses plan e = accesses_of (slice_get plan.agents e.stamp.agent) e

-- what these steps access, one after another
abbrev pub accesses_in : Plan → List Entry → List Access
accesses_in plan entries = flat_map (accesses plan) entries

-- what the sequential run accesses
abbrev pub run_accesses : Plan → List Access
run_accesses plan = accesses_in plan (sequential_run plan)
