-- A worked text.
use Rattle.std.specs.Prelude.{ℕ, List, [], ◌∷◌, codes, pos, negsuc}
use Rattle.pm_base.specs.declared.program.Expr.TheVariants.{Num, Part, Bin, Reg}
use Rattle.pm_base.specs.declared.program.Field.TheVariants as field
use Rattle.pm_base.specs.declared.program.Op.TheVariants as op
use Rattle.pm_base.specs.declared.program.Place.TheVariants.{Var}
use Rattle.pm_base.specs.declared.program.Program.{Program}
use Rattle.pm_base.specs.declared.program.Sense.TheVariants as sense
use Rattle.pm_base.specs.declared.program.Stmt.TheVariants as stmt
use Rattle.pm_rules.specs.Reading.{Table}

-- one class with one member, c0
abbrev pub worked_table : Table
worked_table = record { classes = (codes "cell", record { first = 0; count = 1 }) ∷ []; vars = codes "c0" ∷ [] }

-- a register, a sense, and an `if` without `else`, with hardly a space
abbrev pub worked_text : List ℕ
worked_text = codes "reg n 0\nread a=c0\nif(a.x<1)\nset c0=(n - 1),-2\nend"

-- the program of that text
abbrev pub worked_program : Program
worked_program = record {
  regs = record { name = codes "n"; start = pos 0 } ∷ [];
  senses = record { name = codes "a"; sense = sense.Read (Var 0) } ∷ [];
  body = stmt.If (Bin op.Less (Part 0 field.X) (Num (pos 1)))
      (stmt.Set (Var 0) (Bin op.Sub (Reg 0) (Num (pos 1))) (Num (negsuc 1)) ∷ []) [] ∷ [];
}

-- how it is printed, which is the text with its spaces set right
abbrev pub worked_printed : List ℕ
worked_printed = codes "reg n 0\nread a = c0\nif (a.x < 1)\nset c0 = (n - 1), -2\nend\n"
