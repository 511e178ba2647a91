-- A rule that counts down: `reg n 0`, `read a = c0`, `if (a.x < 1)`, `set c0 = (n - 1), -2`, `end`.
use Rattle.std.specs.Prelude.{◌≡◌, List, [], ◌∷◌, pos, negsuc}
use Rattle.pm_base.specs.declared.program.Expr.TheVariants.{Num, Reg, Part, Bin}
use Rattle.pm_base.specs.declared.program.Field.TheVariants as field
use Rattle.pm_base.specs.declared.program.Op.TheVariants as op
use Rattle.pm_base.specs.declared.program.Place.TheVariants.{Var}
use Rattle.pm_base.specs.declared.program.Program.{Program}
use Rattle.pm_base.specs.declared.program.Sense.TheVariants.{Read}
use Rattle.pm_base.specs.declared.program.Stmt.TheVariants.{If, Set}
use Rattle.pm_base.specs.declared.value.Change.TheVariants as change
use Rattle.pm_base.specs.declared.value.Hit.{Hit}
use Rattle.pm_base.specs.declared.value.Query.TheVariants as query
use Rattle.pm_step.specs.Expressions.{Sight, sight}
use Rattle.pm_step.specs.Steps.{step}
use Rattle.pm_step.specs.declared.Next.TheVariants as next

-- the rule that counts down, as a tree
abbrev pub sample : Program
sample = record {
  regs = record { name = 110 ∷ []; start = pos 0 } ∷ [];
  senses = record { name = 97 ∷ []; sense = Read (Var 0) } ∷ [];
  body =
      If (Bin op.Less (Part 0 field.X) (Num (pos 1)))
      (Set (Var 0) (Bin op.Sub (Reg 0) (Num (pos 1))) (Num (negsuc 1)) ∷ []) [] ∷ [];
}

-- one class of one variable, at time 0, agent 0, with n at 0
abbrev pub sample_sight : List (List Hit) → Sight
sample_sight answers =
    sight (record { first = 0; count = 1 } ∷ []) (record { time = 0; agent = 0 }) (pos 0 ∷ []) answers

-- without an answer it asks for c0; where c0 is (0,0) it writes (-1,-2)
pub record SampleSteps : Type 0 where
  pub asks : step sample (sample_sight []) ≡ next.Ask (query.One 0)
  pub acts :
      step sample (sample_sight ((record { var = 0; value = record { x = pos 0; y = pos 0 } } ∷ []) ∷ [])) ≡
      next.Act (record {
        writes = record { var = 0; change = change.Set (record { x = negsuc 0; y = negsuc 1 }) } ∷ [];
        regs = pos 0 ∷ [];
        wait = 1;
      })
