-- Worked rows: an agent that counts, and one that makes a single step.
use Rattle.std.specs.Prelude.{ℕ, ◌^◌, ◌-◌, [], ◌∷◌, codes, pos}
use Rattle.pm_base.specs.declared.program.Expr.TheVariants.{Num}
use Rattle.pm_base.specs.declared.program.Program.{Program}
use Rattle.pm_base.specs.declared.program.Stmt.TheVariants.{Wait}
use Rattle.pm_plan.specs.declared.plan.Plan.{Plan}
use Rattle.pm_model.specs.Examples.{agent_of, counter, counting, small_plan}

-- the counter, with its variable at that number and its agent at that time
abbrev pub counter_from : ℕ → Plan
counter_from t = record {
  horizon = counter.horizon;
  move_after = counter.move_after;
  clps = counter.clps;
  layout = counter.layout;
  classes = counter.classes;
  vars = record { name = codes "c0"; at = 0; value = record { x = pos t; y = pos 0 } } ∷ [];
  agents = record { name = codes "ant"; home = 0; start = t; program = counting } ∷ [];
}

-- `wait 9223372036854775807`
abbrev pub waiting : Program
waiting = record { regs = []; senses = []; body = Wait (Num (pos (2 ^ 63 - 1))) ∷ [] }

-- one agent makes one step; the horizon is the last time that a plan may name
abbrev pub one_step : Plan
one_step = small_plan 1000000000000 (agent_of (codes "ant") waiting ∷ [])
