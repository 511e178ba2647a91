-- Small parts and plans for worked rows: CLPs `top` and `low`, a variable `v` and an agent `ant`.
use Rattle.std.specs.Prelude.{ℕ, pos, List, [], ◌∷◌, Option, Some, None, codes}
use Rattle.pm_base.specs.declared.value.Value.{Value}
use Rattle.pm_base.specs.declared.program.Program.{Program}
use Rattle.pm_plan.specs.declared.parts.ClpPart.{ClpPart}
use Rattle.pm_plan.specs.declared.parts.PlanParts.{PlanParts}
use Rattle.pm_plan.specs.declared.plan.Plan.{Plan}

-- a communication process of that name, below the one of the other name
abbrev pub clp : List ℕ → Option (List ℕ) → ClpPart
clp name parent = record { name = name; parent = parent }

-- a rule that senses nothing and does nothing
abbrev pub idle : Program
idle = record { regs = []; senses = []; body = [] }

-- the value of `v`
abbrev pub value : Value
value = record { x = pos 5; y = pos 7 }

-- these CLPs, a class `none` without variables and a class `some` with `v` at that CLP, and `ant` at `top`
abbrev pub parts : List ClpPart → List ℕ → PlanParts
parts clps place = record {
  horizon = 9;
  move_after = 3;
  clps = clps;
  classes =
      (record { name = codes "none"; vars = [] }) ∷
      (record { name = codes "some"; vars = (record { name = codes "v"; at = place; value = value }) ∷ [] }) ∷ [];
  agents = (record { name = codes "ant"; home = codes "top"; start = 2; program = idle }) ∷ [];
}

-- the plan of `top` above `low`, and `v` at `low`
abbrev pub two : Plan
two = record {
  horizon = 9;
  move_after = 3;
  clps = (record { name = codes "top"; parent = None }) ∷ (record { name = codes "low"; parent = Some 0 }) ∷ [];
  layout = record { classes = (record { first = 0; count = 0 }) ∷ (record { first = 0; count = 1 }) ∷ [] };
  classes = codes "none" ∷ codes "some" ∷ [];
  vars = (record { name = codes "v"; at = 1; value = value }) ∷ [];
  agents = (record { name = codes "ant"; home = 0; start = 2; program = idle }) ∷ [];
}
