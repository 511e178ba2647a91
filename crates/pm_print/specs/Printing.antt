-- Which tokens a printed text may have: the names are names, and the numbers have 64 bits.
use Rattle.std.specs.Prelude.{◌≡◌, ℕ, ◌+◌, ◌<◌, ◌^◌, nat_lt, ◌&&◌, Bool, true, ℤ, pos, negsuc}
use Rattle.std.specs.Prelude.{List, [], ◌∷◌, codes, length, map, FitsSigned}
use Rattle.std.specs.Int.{w64}
use Rattle.std.specs.List.{AllByRecursion}
use Rattle.pm_base.specs.Fits.{all_true, reg_names, sense_names}
use Rattle.pm_base.specs.Names.{is_name}
use Rattle.pm_base.specs.declared.program.Expr.{Expr}
use Rattle.pm_base.specs.declared.program.Expr.TheFolds.{fold-Expr}
use Rattle.pm_base.specs.declared.program.Expr.TheOpen.{Expr-F}
use Rattle.pm_base.specs.declared.program.Place.{Place}
use Rattle.pm_base.specs.declared.program.Place.TheVariants.{Var, Member}
use Rattle.pm_base.specs.declared.program.Program.{Program}
use Rattle.pm_base.specs.declared.program.RegRow.{RegRow}
use Rattle.pm_base.specs.declared.program.Sense.{Sense}
use Rattle.pm_base.specs.declared.program.Sense.TheVariants as sense
use Rattle.pm_base.specs.declared.program.SenseRow.{SenseRow}
use Rattle.pm_base.specs.declared.program.Stmt.{Stmt}
use Rattle.pm_base.specs.declared.program.Stmt.TheFolds.{fold-Stmt}
use Rattle.pm_base.specs.declared.program.Stmt.TheOpen.{Stmt-F}
use Rattle.pm_rules.specs.Grammar.{Row}
use Rattle.pm_rules.specs.Reading.{Scope, Table, class_names}
use Rattle.pm_rules.specs.Spelling.{program_says, program_scope, spell_said}
use Rattle.pm_tokens.specs.Tokens.{Tok, name, number, symbol}
use Rattle.pm_print.specs.declared.printing.Piece.{Piece}
use Rattle.pm_print.specs.declared.printing.Piece.TheVariants as piece
use Rattle.pm_print.specs.declared.printing.Words.{Words}

-- a token that some text has
abbrev pub IsWritable : Tok → Type 0
IsWritable (name w) = is_name w ≡ true
IsWritable (number z) = FitsSigned w64 z
IsWritable (symbol s) = Unit {0}

-- some text has each of these tokens
abbrev pub AreWritable : List Tok → Type 0
AreWritable ts = AllByRecursion IsWritable ts

-- the tokens of a line that isn't empty
pub record IsWritten (ts : List Tok) : Type 0 where
  pub tokens : AreWritable ts
  pub some : 0 < length ts

-- each line of a program has tokens, and all of them are writable
abbrev pub AreWritten : Table → Program → Type 0
AreWritten t p = AllByRecursion (λ s. IsWritten (spell_said (program_scope t p) s)) (program_says p)

-- tokens that are to be written, without the names that they borrow
abbrev pub piece_tok : Piece → Tok
piece_tok (piece.Name w) = name w.now
piece_tok (piece.Number z) = number z
piece_tok (piece.Symbol s) = symbol s

-- the tokens of what is to be written
abbrev pub pieces : List Piece → List Tok
pieces ps = map piece_tok ps

-- the names that a printer is lent
abbrev pub scope_of : Words → Scope
scope_of w = record {
  table = record { classes = w.classes.now; vars = w.vars.now };
  regs = reg_names w.regs.now;
  senses = sense_names w.senses.now;
}

-- lines of these tokens, numbered from n on
abbrev pub numbered : ℕ → List (List Tok) → List Row
numbered n [] = []
numbered n (ts ∷ lines) = record { number = n; tokens = ts } ∷ numbered (n + 1) lines

-- an `else` before a list that isn't empty
abbrev pub else_text : List Stmt → List ℕ
else_text [] = []
else_text (s ∷ ss) = codes "else\n"

-- each is a name
abbrev pub AreNames : List (List ℕ) → Type 0
AreNames names = AllByRecursion (λ w. is_name w ≡ true) names

-- a scenario's names are names
pub record IsNamed (t : Table) : Type 0 where
  pub classes : AreNames (class_names t)
  pub vars : AreNames t.vars

-- a number of 64 bits
abbrev pub in_i64 : ℤ → Bool
in_i64 (pos n) = nat_lt n (2 ^ 63)
in_i64 (negsuc n) = nat_lt n (2 ^ 63)

-- whether each number of a node has 64 bits, given whether those under it have
abbrev pub sized_step : Expr-F Bool → Bool
sized_step (Expr-F.Num z) = in_i64 z
sized_step Expr-F.Now = true
sized_step Expr-F.Me = true
sized_step (Expr-F.Reg r) = true
sized_step (Expr-F.Part k f) = true
sized_step (Expr-F.Bin o a b) = a && b

-- each number of an expression has 64 bits, as all that a program holds
abbrev pub is_sized : Expr → Bool
is_sized = fold-Expr Bool sized_step

-- so in a place
abbrev pub place_sized : Place → Bool
place_sized (Var v) = true
place_sized (Member class at) = is_sized at

-- so in a sense
abbrev pub sense_sized : Sense → Bool
sense_sized (sense.Read place) = place_sized place
sense_sized (sense.Scan class x0 x1 y0 y1) = (is_sized x0 && is_sized x1) && (is_sized y0 && is_sized y1)

-- so in a place and the two expressions that change it
abbrev pub change_sized : Place → Expr → Expr → Bool
change_sized place x y = place_sized place && (is_sized x && is_sized y)

-- so in a statement, given whether it is so in those under it
abbrev pub stmt_sized_step : Stmt-F Bool → Bool
stmt_sized_step (Stmt-F.Let reg e) = is_sized e
stmt_sized_step (Stmt-F.If test first second) = is_sized test && (all_true first && all_true second)
stmt_sized_step (Stmt-F.Set place x y) = change_sized place x y
stmt_sized_step (Stmt-F.Add place x y) = change_sized place x y
stmt_sized_step (Stmt-F.Wait e) = is_sized e

-- so in a statement and all under it
abbrev pub stmt_sized : Stmt → Bool
stmt_sized = fold-Stmt Bool stmt_sized_step

-- so in each of the statements
abbrev pub stmts_sized : List Stmt → Bool
stmts_sized stmts = all_true (map stmt_sized stmts)

-- each register begins with a number of 64 bits
abbrev pub regs_sized : List RegRow → Bool
regs_sized [] = true
regs_sized (row ∷ rows) = in_i64 row.start && regs_sized rows

-- each number of the senses has 64 bits
abbrev pub senses_sized : List SenseRow → Bool
senses_sized [] = true
senses_sized (row ∷ rows) = sense_sized row.sense && senses_sized rows

-- each number of a program has 64 bits
abbrev pub program_sized : Program → Bool
program_sized p = regs_sized p.regs && (senses_sized p.senses && stmts_sized p.body)
