-- Three small plans: one process, one class, one variable c0.
use Rattle.std.specs.Prelude.{ℕ, List, [], ◌∷◌, codes, None, pos}
use Rattle.pm_base.specs.declared.program.Expr.TheVariants.{Num, Part, Bin}
use Rattle.pm_base.specs.declared.program.Field.TheVariants as field
use Rattle.pm_base.specs.declared.program.Op.TheVariants as op
use Rattle.pm_base.specs.declared.program.Place.TheVariants.{Var}
use Rattle.pm_base.specs.declared.program.Program.{Program}
use Rattle.pm_base.specs.declared.program.Sense.TheVariants.{Read}
use Rattle.pm_base.specs.declared.program.Stmt.TheVariants.{Set}
use Rattle.pm_plan.specs.declared.plan.AgentRow.{AgentRow}
use Rattle.pm_plan.specs.declared.plan.Plan.{Plan}

-- the agents with these rules run until that horizon
abbrev pub small_plan : ℕ → List AgentRow → Plan
small_plan horizon agents = record {
  horizon = horizon;
  move_after = 0;
  clps = record { name = codes "root"; parent = None } ∷ [];
  layout = record { classes = record { first = 0; count = 1 } ∷ [] };
  classes = codes "cell" ∷ [];
  vars = record { name = codes "c0"; at = 0; value = record { x = pos 0; y = pos 0 } } ∷ [];
  agents = agents;
}

-- an agent of that name and rule, which starts at time 0
abbrev pub agent_of : List ℕ → Program → AgentRow
agent_of name program = record { name = name; home = 0; start = 0; program = program }

-- `read a = c0`, `set c0 = (a.x + 1), 0`
abbrev pub counting : Program
counting = record {
  regs = [];
  senses = record { name = codes "a"; sense = Read (Var 0) } ∷ [];
  body = Set (Var 0) (Bin op.Add (Part 0 field.X) (Num (pos 1))) (Num (pos 0)) ∷ [];
}

-- `set c0 = 5, 0`
abbrev pub writing : Program
writing = record { regs = []; senses = []; body = Set (Var 0) (Num (pos 5)) (Num (pos 0)) ∷ [] }

-- `read a = c0`
abbrev pub reading : Program
reading = record { regs = []; senses = record { name = codes "a"; sense = Read (Var 0) } ∷ []; body = [] }

-- one agent counts, at the times 0, 1 and 2
abbrev pub counter : Plan
counter = small_plan 2 (agent_of (codes "ant") counting ∷ [])

-- two agents at time 0: the lower number writes, the higher reads
abbrev pub tie_write_first : Plan
tie_write_first = small_plan 0 (agent_of (codes "w") writing ∷ agent_of (codes "r") reading ∷ [])

-- two agents at time 0: the lower number reads, the higher writes
abbrev pub tie_read_first : Plan
tie_read_first = small_plan 0 (agent_of (codes "r") reading ∷ agent_of (codes "w") writing ∷ [])
