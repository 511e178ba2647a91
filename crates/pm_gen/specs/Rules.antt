-- The rules of generated agents.
use Rattle.std.specs.Prelude.{ℕ, zero, suc, pos, List, [], ◌∷◌, ◌++◌, codes}
use Rattle.pm_base.specs.declared.program.Expr.{Expr}
use Rattle.pm_base.specs.declared.program.Expr.TheVariants.{Num, Me, Reg, Part, Bin}
use Rattle.pm_base.specs.declared.program.Field.TheVariants as field
use Rattle.pm_base.specs.declared.program.Op.TheVariants as op
use Rattle.pm_base.specs.declared.program.Place.{Place}
use Rattle.pm_base.specs.declared.program.Place.TheVariants.{Member}
use Rattle.pm_base.specs.declared.program.Program.{Program}
use Rattle.pm_base.specs.declared.program.Sense.TheVariants as sense
use Rattle.pm_base.specs.declared.program.Stmt.TheVariants as stmt
use Rattle.pm_rules.specs.Reading.{Table}

-- rule 0: an agent that takes from the cell that it is at, and goes to the first rich one where nothing is left
abbrev pub taking : List ℕ
taking =
    codes "reg at 0\nread here = cell[at]\nscan near = cell 5 9 0 9\nif (here.x < 1)\nlet at = near.i\nwait 3\n" ++
    codes "else\nset cell[at] = (here.x - 1), here.y\nend\n"

-- rule 1: an agent that adds to one cell after another
abbrev pub adding : List ℕ
adding =
    codes "reg at 0\nread here = cell[(at + me)]\nset cell[(at + me)] = ((here.x + 2) min 9), here.y\n" ++
    codes "let at = (at + 5)\nwait 4\n"

-- rule 2: an agent that notes at its mark how many cells are rich, and the sum of their x
abbrev pub noting : List ℕ
noting = codes "scan rich = cell 6 9 0 9\nread m = mark[me]\nset mark[me] = rich.n, rich.sx\nwait 2\n"

-- the text of a rule: of the rules 0, 1 and 2
abbrev pub rule_text : ℕ → List ℕ
rule_text zero = taking
rule_text (suc zero) = adding
rule_text (suc (suc n)) = noting

-- the cell at an index
abbrev pub cell_at : Expr → Place
cell_at at = Member 0 at

-- the mark at an index
abbrev pub mark_at : Expr → Place
mark_at at = Member 1 at

-- the tree of rule 0
abbrev pub taking_program : Program
taking_program = record {
  regs = record { name = codes "at"; start = pos 0 } ∷ [];
  senses =
      record { name = codes "here"; sense = sense.Read (cell_at (Reg 0)) } ∷
      record { name = codes "near"; sense = sense.Scan 0 (Num (pos 5)) (Num (pos 9)) (Num (pos 0)) (Num (pos 9)) } ∷ [];
  body = stmt.If (Bin op.Less (Part 0 field.X) (Num (pos 1)))
      (stmt.Let 0 (Part 1 field.I) ∷ stmt.Wait (Num (pos 3)) ∷ [])
      (stmt.Set (cell_at (Reg 0)) (Bin op.Sub (Part 0 field.X) (Num (pos 1))) (Part 0 field.Y) ∷ []) ∷ [];
}

-- the tree of rule 1
abbrev pub adding_program : Program
adding_program = record {
  regs = record { name = codes "at"; start = pos 0 } ∷ [];
  senses = record { name = codes "here"; sense = sense.Read (cell_at (Bin op.Add (Reg 0) Me)) } ∷ [];
  body =
      stmt.Set (cell_at (Bin op.Add (Reg 0) Me))
      (Bin op.Min (Bin op.Add (Part 0 field.X) (Num (pos 2))) (Num (pos 9))) (Part 0 field.Y) ∷
      stmt.Let 0 (Bin op.Add (Reg 0) (Num (pos 5))) ∷
      stmt.Wait (Num (pos 4)) ∷ [];
}

-- the tree of rule 2
abbrev pub noting_program : Program
noting_program = record {
  regs = [];
  senses =
      record { name = codes "rich"; sense = sense.Scan 0 (Num (pos 6)) (Num (pos 9)) (Num (pos 0)) (Num (pos 9)) } ∷
      record { name = codes "m"; sense = sense.Read (mark_at Me) } ∷ [];
  body =
      stmt.Set (mark_at Me) (Part 0 field.N) (Part 0 field.Sx) ∷
      stmt.Wait (Num (pos 2)) ∷ [];
}

-- the tree of a rule: of the rules 0, 1 and 2
abbrev pub program : ℕ → Program
program zero = taking_program
program (suc zero) = adding_program
program (suc (suc n)) = noting_program

-- what the names in the rules stand for: 24 cells and 4 marks, where the variables have those names
abbrev pub table : List (List ℕ) → Table
table vars = record {
  classes =
      (codes "cell", record { first = 0; count = 24 }) ∷
      (codes "mark", record { first = 24; count = 4 }) ∷ [];
  vars = vars;
}
