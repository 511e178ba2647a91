-- Plans with three processes: `root`, and `west` and `east` below it; c0 is at `root`.
use Rattle.std.specs.Prelude.{ℕ, List, [], ◌∷◌, Some, None, codes}
use Rattle.pm_plan.specs.declared.plan.AgentRow.{AgentRow}
use Rattle.pm_plan.specs.declared.plan.Plan.{Plan}
use Rattle.pm_model.specs.Examples.{agent_of, reading, small_plan, writing}

-- these agents step at the times 0 and 1
abbrev pub branching : List AgentRow → Plan
branching agents = record (small_plan 1 agents) {
  clps = record { name = codes "root"; parent = None } ∷ record { name = codes "west"; parent = Some 0 }
      ∷ record { name = codes "east"; parent = Some 0 } ∷ [];
}

-- `u` writes c0 from `west`
abbrev pub writer : AgentRow
writer = record (agent_of (codes "u") writing) { home = 1 }

-- an agent of that name reads c0 from `east`
abbrev pub reader : List ℕ → AgentRow
reader name = record (agent_of name reading) { home = 2 }

-- one writes, and two read
abbrev pub two_readers : Plan
two_readers = branching (writer ∷ reader (codes "v") ∷ reader (codes "w") ∷ [])

-- one writes, and one reads
abbrev pub one_reader : Plan
one_reader = branching (writer ∷ reader (codes "v") ∷ [])
