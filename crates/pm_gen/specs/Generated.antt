-- The scenario of a number.
use Rattle.std.specs.Prelude.{ℕ, ◌+◌, ◌*◌, pos, List, [], ◌∷◌, ◌++◌, map, Some, None, codes, decimal}
use Rattle.std.specs.List.{range_with_len}
use Rattle.pm_plan.specs.declared.parts.AgentPart.{AgentPart}
use Rattle.pm_plan.specs.declared.parts.ClassPart.{ClassPart}
use Rattle.pm_plan.specs.declared.parts.ClpPart.{ClpPart}
use Rattle.pm_plan.specs.declared.parts.PlanParts.{PlanParts}
use Rattle.pm_plan.specs.declared.parts.VarPart.{VarPart}
use Rattle.pm_gen.specs.Draws.{draw, state_after}
use Rattle.pm_gen.specs.Rules.{program}

-- a letter and a number
unfoldable pub name_of : List ℕ → ℕ → List ℕ
name_of letter number = letter ++ decimal number

-- the name of that communication process
abbrev pub clp_name : ℕ → List ℕ
clp_name number = name_of (codes "p") number

-- the process at the root
abbrev pub root : ClpPart
root = record { name = clp_name 0; parent = None }

-- a process below one of those before it, which is drawn in that state
abbrev pub child : ℕ → ℕ → ClpPart
child state number = record { name = clp_name number; parent = Some (clp_name (draw state number)) }

-- a cell: its place and its value are drawn from that state on
abbrev pub cell : ℕ → ℕ → VarPart
cell state number = record {
  name = name_of (codes "c") number;
  at = clp_name (draw state 5);
  value = record { x = pos (draw (state_after state 1) 10); y = pos (draw (state_after state 2) 10) };
}

-- a mark: its place is drawn in that state
abbrev pub mark : ℕ → ℕ → VarPart
mark state number = record {
  name = name_of (codes "m") number;
  at = clp_name (draw state 5);
  value = record { x = pos 0; y = pos 0 };
}

-- an agent: its home, its start and its rule are drawn from that state on
abbrev pub agent : ℕ → ℕ → AgentPart
agent state number = record {
  name = name_of (codes "a") number;
  home = clp_name (draw state 5);
  start = draw (state_after state 1) 8;
  program = program (draw (state_after state 2) 3);
}

-- five processes: one draw for each but the root
unfoldable pub clps : ℕ → List ClpPart
clps state = root ∷ map (λ k. child (state_after state k) (k + 1)) (range_with_len 0 4)

-- 24 cells: three draws for each
unfoldable pub cells : ℕ → List VarPart
cells state = map (λ k. cell (state_after state (3 * k)) k) (range_with_len 0 24)

-- four marks: one draw for each
unfoldable pub marks : ℕ → List VarPart
marks state = map (λ k. mark (state_after state k) k) (range_with_len 0 4)

-- twelve agents: three draws for each
unfoldable pub agents : ℕ → List AgentPart
agents state = map (λ k. agent (state_after state (3 * k)) k) (range_with_len 0 12)

-- both classes, the cells before the marks
unfoldable pub classes : ℕ → List ClassPart
classes state =
    record { name = codes "cell"; vars = cells state } ∷
    record { name = codes "mark"; vars = marks (state_after state 72) } ∷ []

-- the parts of the scenario of a number: 4 draws for the processes, 76 for the variables, 36 for the agents
unfoldable pub generated : ℕ → PlanParts
generated number = record {
  horizon = 60;
  move_after = 4;
  clps = clps number;
  classes = classes (state_after number 4);
  agents = agents (state_after number 80);
}
