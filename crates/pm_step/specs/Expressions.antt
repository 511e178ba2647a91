-- The value of an expression.
use Rattle.std.specs.Prelude.{ℕ, ◌+◌, ◌-◌, if◌then◌else◌, nat_lt, List, [], ◌∷◌, length, get_or}
use Rattle.std.specs.Prelude.{ℤ, pos, negsuc, ◌+ℤ◌}
use Rattle.std.specs.List.{fold}
use Rattle.std.specs.Int.{w64, saturate_signed}
use Rattle.pm_step.specs.Arithmetic.{compute}
use Rattle.pm_base.specs.declared.program.Expr.{Expr}
use Rattle.pm_base.specs.declared.program.Expr.TheOpen.{Expr-F}
use Rattle.pm_base.specs.declared.program.Expr.TheFolds.{fold-Expr}
use Rattle.pm_base.specs.declared.program.Field.{Field}
use Rattle.pm_base.specs.declared.program.Field.TheVariants as field
use Rattle.pm_base.specs.declared.stamp.Stamp.{Stamp}
use Rattle.pm_base.specs.declared.value.Hit.{Hit}
use Rattle.pm_base.specs.declared.layout.ClassRow.{ClassRow}
use Rattle.pm_step.specs.declared.expressions.Scene.{Scene}

-- what an expression reads
pub record Sight : Type 0 where
  pub classes : List ClassRow
  pub stamp : Stamp
  pub regs : List ℤ
  pub answers : List (List Hit)

-- what an expression reads: these classes, this moment, these registers and these answers
abbrev pub sight : List ClassRow → Stamp → List ℤ → List (List Hit) → Sight
sight classes stamp regs answers = record { classes = classes; stamp = stamp; regs = regs; answers = answers }

-- what an expression sees, with these registers
abbrev pub seen : Scene → List ℤ → Sight
seen scene regs = sight scene.layout.now.classes scene.stamp regs scene.answers.now

-- a variable's place in its class, counted from 0
abbrev pub place_in_class : List ClassRow → ℕ → ℕ
place_in_class [] var = 0
place_in_class (c ∷ cs) var = if nat_lt var (c.first + c.count) then var - c.first else place_in_class cs var

-- the sum of what the hits give, brought back to 64 bits at each addition
abbrev pub sum_over : (Hit → ℤ) → List Hit → ℤ
sum_over f hits = fold (λ a h. saturate_signed w64 (a +ℤ f h)) (pos 0) hits

-- what the first hit gives; this number where there is no hit
abbrev pub first_or : ℤ → (Hit → ℤ) → List Hit → ℤ
first_or none f [] = none
first_or none f (h ∷ hs) = f h

-- a field of an answer: how many hits, the first hit (its place in its class, its coordinates), or the sums of all
abbrev pub part : List ClassRow → Field → List Hit → ℤ
part classes field.N hits = pos (length hits)
part classes field.I hits = first_or (negsuc 0) (λ h. pos (place_in_class classes h.var)) hits
part classes field.X hits = first_or (pos 0) (λ h. h.value.x) hits
part classes field.Y hits = first_or (pos 0) (λ h. h.value.y) hits
part classes field.Sx hits = sum_over (λ h. h.value.x) hits
part classes field.Sy hits = sum_over (λ h. h.value.y) hits

-- one level of an expression, where each part has its value already
abbrev pub value_step : Sight → Expr-F ℤ → ℤ
value_step s (Expr-F.Num n) = n
value_step s Expr-F.Now = pos s.stamp.time
value_step s Expr-F.Me = pos s.stamp.agent
value_step s (Expr-F.Reg r) = get_or s.regs r (pos 0)
value_step s (Expr-F.Part k f) = part s.classes f (get_or s.answers k [])
value_step s (Expr-F.Bin o a b) = compute o a b

-- the value of an expression; a register that is not there is 0, an answer that is not there has no hits
abbrev pub value : Sight → Expr → ℤ
value s = fold-Expr ℤ (value_step s)
