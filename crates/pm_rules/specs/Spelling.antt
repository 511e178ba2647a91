-- The tokens of a tree, in the grammar's order.
use Rattle.std.specs.Prelude.{ℕ, List, [], ◌∷◌, ◌++◌}
use Rattle.std.specs.Prelude.{get_or, map, codes}
use Rattle.pm_base.specs.Fits.{reg_names, sense_names}
use Rattle.pm_base.specs.declared.program.Expr.{Expr}
use Rattle.pm_base.specs.declared.program.Expr.TheFolds.{fold-Expr}
use Rattle.pm_base.specs.declared.program.Expr.TheOpen.{Expr-F}
use Rattle.pm_base.specs.declared.program.Field.{Field}
use Rattle.pm_base.specs.declared.program.Field.TheVariants as field
use Rattle.pm_base.specs.declared.program.Op.{Op}
use Rattle.pm_base.specs.declared.program.Op.TheVariants as op
use Rattle.pm_base.specs.declared.program.Place.{Place}
use Rattle.pm_base.specs.declared.program.Place.TheVariants.{Var, Member}
use Rattle.pm_base.specs.declared.program.Program.{Program}
use Rattle.pm_base.specs.declared.program.RegRow.{RegRow}
use Rattle.pm_base.specs.declared.program.Sense.{Sense}
use Rattle.pm_base.specs.declared.program.Sense.TheVariants as sense
use Rattle.pm_base.specs.declared.program.SenseRow.{SenseRow}
use Rattle.pm_base.specs.declared.program.Stmt.{Stmt}
use Rattle.pm_base.specs.declared.program.Stmt.TheFolds.{fold-Stmt}
use Rattle.pm_base.specs.declared.program.Stmt.TheOpen.{Stmt-F}
use Rattle.pm_base.specs.declared.program.Stmt.TheVariants as stmt
use Rattle.pm_rules.specs.Reading.{Scope, Table, class_names}
use Rattle.pm_tokens.specs.Tokens.{Tok, name, number, symbol}
use Rattle.pm_rules.specs.declared.said.Said.{Said}
use Rattle.pm_rules.specs.declared.said.Said.TheVariants as said
use Rattle.pm_tokens.specs.declared.token.Symbol.TheVariants as sym

-- the token of each operator
abbrev pub op_token : Op → Tok
op_token op.Add = symbol sym.Plus
op_token op.Sub = symbol sym.Minus
op_token op.Mul = symbol sym.Star
op_token op.Div = symbol sym.Slash
op_token op.Rem = symbol sym.Percent
op_token op.Min = name (codes "min")
op_token op.Max = name (codes "max")
op_token op.Less = symbol sym.Less
op_token op.AtMost = symbol sym.AtMost
op_token op.Equal = symbol sym.Equal
op_token op.Differ = symbol sym.Differ

-- the word of each field
abbrev pub field_word : Field → List ℕ
field_word field.N = codes "n"
field_word field.I = codes "i"
field_word field.X = codes "x"
field_word field.Y = codes "y"
field_word field.Sx = codes "sx"
field_word field.Sy = codes "sy"

-- the name of that number
abbrev pub name_in : List (List ℕ) → ℕ → List ℕ
name_in names k = get_or names k []

-- NUMBER, now, me, REGISTER, SENSE . FIELD, ( EXPR OP EXPR )
abbrev pub spell_step : Scope → Expr-F (List Tok) → List Tok
spell_step sc (Expr-F.Num z) = number z ∷ []
spell_step sc Expr-F.Now = name (codes "now") ∷ []
spell_step sc Expr-F.Me = name (codes "me") ∷ []
spell_step sc (Expr-F.Reg r) = name (name_in sc.regs r) ∷ []
spell_step sc (Expr-F.Part k f) = name (name_in sc.senses k) ∷ symbol sym.Dot ∷ name (field_word f) ∷ []
spell_step sc (Expr-F.Bin o a b) = symbol sym.Open ∷ (a ++ (op_token o ∷ (b ++ symbol sym.Close ∷ [])))

-- the tokens of an expression
abbrev pub spell : Scope → Expr → List Tok
spell sc = fold-Expr (List Tok) (spell_step sc)

-- VARIABLE, CLASS [ EXPR ]
abbrev pub spell_place : Scope → Place → List Tok
spell_place sc (Var var) = name (name_in sc.table.vars var) ∷ []
spell_place sc (Member class at) =
    name (name_in (class_names sc.table) class) ∷ symbol sym.LeftBracket ∷
    (spell sc at ++ symbol sym.RightBracket ∷ [])

-- read NAME = PLACE, scan NAME = CLASS EXPR EXPR EXPR EXPR
abbrev pub spell_sense : Scope → List ℕ → Sense → List Tok
spell_sense sc w (sense.Read place) =
    name (codes "read") ∷ name w ∷ symbol sym.Assign ∷ spell_place sc place
spell_sense sc w (sense.Scan class x0 x1 y0 y1) =
    name (codes "scan") ∷ name w ∷ symbol sym.Assign ∷ name (name_in (class_names sc.table) class) ∷
    (spell sc x0 ++ (spell sc x1 ++ (spell sc y0 ++ spell sc y1)))

-- PLACE = EXPR , EXPR, after its word
abbrev pub spell_change : Scope → List ℕ → Place → Expr → Expr → List Tok
spell_change sc w place x y =
    name w ∷ (spell_place sc place ++ (symbol sym.Assign ∷ (spell sc x ++ (symbol sym.Comma ∷ spell sc y))))

-- let NAME = EXPR, set, add, wait EXPR; an `if` has lines of its own
abbrev pub spell_does_step : Scope → Stmt-F (List Tok) → List Tok
spell_does_step sc (Stmt-F.Let reg e) =
    name (codes "let") ∷ name (name_in sc.regs reg) ∷ symbol sym.Assign ∷ spell sc e
spell_does_step sc (Stmt-F.If test first second) = []
spell_does_step sc (Stmt-F.Set place x y) = spell_change sc (codes "set") place x y
spell_does_step sc (Stmt-F.Add place x y) = spell_change sc (codes "add") place x y
spell_does_step sc (Stmt-F.Wait e) = name (codes "wait") ∷ spell sc e

-- the tokens of a statement of one line
abbrev pub spell_does : Scope → Stmt → List Tok
spell_does sc = fold-Stmt (List Tok) (spell_does_step sc)

-- the tokens of what a line says
abbrev pub spell_said : Scope → Said → List Tok
spell_said sc (said.Reg w z) = name (codes "reg") ∷ name w ∷ number z ∷ []
spell_said sc (said.Sense w s) = spell_sense sc w s
spell_said sc (said.Does s) = spell_does sc s
spell_said sc (said.If test) = name (codes "if") ∷ spell sc test
spell_said sc said.Else = name (codes "else") ∷ []
spell_said sc said.End = name (codes "end") ∷ []

-- what these lists say, one after another
abbrev pub concat : List (List Said) → List Said
concat [] = []
concat (l ∷ ls) = l ++ concat ls

-- the second list of an `if` with its `else`; an empty one is left out
abbrev pub else_said : List (List Said) → List Said
else_said [] = []
else_said (l ∷ ls) = said.Else ∷ concat (l ∷ ls)

-- what the lines of a statement say, given what those under it say
abbrev pub says_step : Stmt-F (List Said) → List Said
says_step (Stmt-F.Let reg e) = said.Does (stmt.Let reg e) ∷ []
says_step (Stmt-F.If test first second) = said.If test ∷ (concat first ++ (else_said second ++ said.End ∷ []))
says_step (Stmt-F.Set place x y) = said.Does (stmt.Set place x y) ∷ []
says_step (Stmt-F.Add place x y) = said.Does (stmt.Add place x y) ∷ []
says_step (Stmt-F.Wait e) = said.Does (stmt.Wait e) ∷ []

-- what the lines of a statement say, an `if` with its lists and its `end`
abbrev pub says : Stmt → List Said
says = fold-Stmt (List Said) says_step

-- what the lines of the statements say, one after another
abbrev pub says_all : List Stmt → List Said
says_all stmts = concat (map says stmts)

-- a line for each register
abbrev pub reg_said : List RegRow → List Said
reg_said [] = []
reg_said (row ∷ rows) = said.Reg row.name row.start ∷ reg_said rows

-- a line for each sense
abbrev pub sense_said : List SenseRow → List Said
sense_said [] = []
sense_said (row ∷ rows) = said.Sense row.name row.sense ∷ sense_said rows

-- what the lines of a program say: its registers, its senses, its body
abbrev pub program_says : Program → List Said
program_says p = reg_said p.regs ++ (sense_said p.senses ++ says_all p.body)

-- all names that a program's lines use
abbrev pub program_scope : Table → Program → Scope
program_scope t p = record { table = t; regs = reg_names p.regs; senses = sense_names p.senses }
