-- Which rules fit: what they use exists, and their printed form is within its limits.
use Rattle.std.specs.Prelude.{ℕ, ◌+◌, ◌&&◌, ◌||◌, Bool, true, false, not, nat_lt, nat_le, max, List, []}
use Rattle.std.specs.Prelude.{◌∷◌, ◌++◌, length, map}
use Rattle.std.specs.Str.{bytes_eq}
use Rattle.pm_base.specs.Layouts.{class_row, var_count}
use Rattle.pm_base.specs.Names.{is_name, is_reserved}
use Rattle.pm_base.specs.declared.fits.Known.{Known}
use Rattle.pm_base.specs.declared.layout.ClassRow.{ClassRow}
use Rattle.pm_base.specs.declared.layout.Layout.{Layout}
use Rattle.pm_base.specs.declared.program.Expr.{Expr}
use Rattle.pm_base.specs.declared.program.Expr.TheFolds.{fold-Expr}
use Rattle.pm_base.specs.declared.program.Expr.TheOpen.{Expr-F}
use Rattle.pm_base.specs.declared.program.Place.{Place}
use Rattle.pm_base.specs.declared.program.Place.TheVariants.{Var, Member}
use Rattle.pm_base.specs.declared.program.Program.{Program}
use Rattle.pm_base.specs.declared.program.RegRow.{RegRow}
use Rattle.pm_base.specs.declared.program.Sense.{Sense}
use Rattle.pm_base.specs.declared.program.Sense.TheVariants.{Read, Scan}
use Rattle.pm_base.specs.declared.program.SenseRow.{SenseRow}
use Rattle.pm_base.specs.declared.program.Stmt.{Stmt}
use Rattle.pm_base.specs.declared.program.Stmt.TheFolds.{fold-Stmt}
use Rattle.pm_base.specs.declared.program.Stmt.TheOpen.{Stmt-F}

-- the tokens of one expression, given those of the two inside it: a number, `now`, `me` and a register are one;
-- SENSE . FIELD; ( a OP b )
abbrev pub tokens_step : Expr-F ℕ → ℕ
tokens_step (Expr-F.Num n) = 1
tokens_step Expr-F.Now = 1
tokens_step Expr-F.Me = 1
tokens_step (Expr-F.Reg r) = 1
tokens_step (Expr-F.Part k f) = 3
tokens_step (Expr-F.Bin o a b) = 3 + a + b

-- how many tokens an expression has in its printed form
abbrev pub tokens_of : Expr → ℕ
tokens_of = fold-Expr ℕ tokens_step

-- VARIABLE, or CLASS [ EXPR ]
abbrev pub place_tokens : Place → ℕ
place_tokens (Var v) = 1
place_tokens (Member class at) = 3 + tokens_of at

-- read NAME = PLACE, or scan NAME = CLASS EXPR EXPR EXPR EXPR
abbrev pub sense_tokens : Sense → ℕ
sense_tokens (Read place) = 3 + place_tokens place
sense_tokens (Scan class x0 x1 y0 y1) = 4 + tokens_of x0 + tokens_of x1 + tokens_of y0 + tokens_of y1

-- set PLACE = EXPR , EXPR, and the same with `add`
abbrev pub change_tokens : Place → Expr → Expr → ℕ
change_tokens place x y = 3 + place_tokens place + tokens_of x + tokens_of y

-- the numbers added up
abbrev pub total : List ℕ → ℕ
total [] = 0
total (n ∷ ns) = n + total ns

-- The lines of a printed `else` and what follows it: none where the second list is empty
abbrev pub else_lines : List ℕ → ℕ
else_lines [] = 0
else_lines (n ∷ ns) = 1 + total (n ∷ ns)

-- The lines of one statement, given those of the statements inside it: an `if` has its own and its `end`, and those
-- of an `else` where its second list isn't empty
abbrev pub lines_step : Stmt-F ℕ → ℕ
lines_step (Stmt-F.Let reg e) = 1
lines_step (Stmt-F.If test first second) = 2 + total first + else_lines second
lines_step (Stmt-F.Set place x y) = 1
lines_step (Stmt-F.Add place x y) = 1
lines_step (Stmt-F.Wait e) = 1

-- how many lines a statement has in its printed form
abbrev pub lines_of : Stmt → ℕ
lines_of = fold-Stmt ℕ lines_step

-- how many lines these statements have, one after another
abbrev pub lines_of_all : List Stmt → ℕ
lines_of_all stmts = total (map lines_of stmts)

-- the greatest of these numbers, 0 where there is none
abbrev pub greatest : List ℕ → ℕ
greatest [] = 0
greatest (n ∷ ns) = max n (greatest ns)

-- the depth of one statement, given those of the statements inside it: an `if` is one deeper than its deepest
abbrev pub depth_step : Stmt-F ℕ → ℕ
depth_step (Stmt-F.Let reg e) = 0
depth_step (Stmt-F.If test first second) = 1 + max (greatest first) (greatest second)
depth_step (Stmt-F.Set place x y) = 0
depth_step (Stmt-F.Add place x y) = 0
depth_step (Stmt-F.Wait e) = 0

-- how many `if` are open at once at the deepest place of a statement
abbrev pub depth_of : Stmt → ℕ
depth_of = fold-Stmt ℕ depth_step

-- how many `if` are open at once at the deepest place of these statements
abbrev pub depth_of_all : List Stmt → ℕ
depth_of_all stmts = greatest (map depth_of stmts)

-- whether one expression uses only registers and senses that are there, given the same of the two inside it
abbrev pub known_step : Known → Expr-F Bool → Bool
known_step k (Expr-F.Num n) = true
known_step k Expr-F.Now = true
known_step k Expr-F.Me = true
known_step k (Expr-F.Reg r) = nat_lt r k.regs
known_step k (Expr-F.Part s f) = nat_lt s k.senses
known_step k (Expr-F.Bin o a b) = a && b

-- each register and each sense that an expression uses is there
abbrev pub is_known : Known → Expr → Bool
is_known k = fold-Expr Bool (known_step k)

-- the variable is there, or the class is there and has a member
abbrev pub place_known : List ClassRow → Known → Place → Bool
place_known classes k (Var v) = nat_lt v k.vars
place_known classes k (Member class at) = nat_lt 0 (class_row classes class).count && is_known k at

-- what a sense uses is there: its place, or its class and what the ends of its window use
abbrev pub sense_known : List ClassRow → Known → Sense → Bool
sense_known classes k (Read place) = place_known classes k place
sense_known classes k (Scan class x0 x1 y0 y1) =
    nat_lt class (length classes) && (is_known k x0 && is_known k x1) && (is_known k y0 && is_known k y1)

-- the place of a change is there, and so is what its two coordinates use
abbrev pub change_known : List ClassRow → Known → Place → Expr → Expr → Bool
change_known classes k place x y = place_known classes k place && (is_known k x && is_known k y)

-- a line of at most 64 tokens
abbrev pub in_line : ℕ → Bool
in_line tokens = nat_le tokens 64

-- all of these answers are yes
abbrev pub all_true : List Bool → Bool
all_true [] = true
all_true (b ∷ bs) = b && all_true bs

-- whether one statement's own lines are short enough and use what is there, given the same of those inside it
abbrev pub stmt_fits_step : List ClassRow → Known → Stmt-F Bool → Bool
stmt_fits_step classes k (Stmt-F.Let reg e) = in_line (3 + tokens_of e) && (nat_lt reg k.regs && is_known k e)
stmt_fits_step classes k (Stmt-F.If test first second) =
    in_line (1 + tokens_of test) && is_known k test && (all_true first && all_true second)
stmt_fits_step classes k (Stmt-F.Set place x y) = in_line (change_tokens place x y) && change_known classes k place x y
stmt_fits_step classes k (Stmt-F.Add place x y) = in_line (change_tokens place x y) && change_known classes k place x y
stmt_fits_step classes k (Stmt-F.Wait e) = in_line (1 + tokens_of e) && is_known k e

-- a statement and all inside it have lines that are short enough, and use what is there
abbrev pub stmt_fits : List ClassRow → Known → Stmt → Bool
stmt_fits classes k = fold-Stmt Bool (stmt_fits_step classes k)

-- each of these statements fits
abbrev pub stmts_fit : List ClassRow → Known → List Stmt → Bool
stmts_fit classes k stmts = all_true (map (stmt_fits classes k) stmts)

-- Each sense uses only those before it
abbrev pub senses_fit : List ClassRow → Known → List SenseRow → Bool
senses_fit classes k [] = true
senses_fit classes k (row ∷ rows) =
    (in_line (sense_tokens row.sense) && sense_known classes k row.sense) &&
    senses_fit classes (record k { senses = k.senses + 1 }) rows

-- the names of these registers, in their order
abbrev pub reg_names : List RegRow → List (List ℕ)
reg_names [] = []
reg_names (row ∷ rows) = row.name ∷ reg_names rows

-- the names of these senses, in their order
abbrev pub sense_names : List SenseRow → List (List ℕ)
sense_names [] = []
sense_names (row ∷ rows) = row.name ∷ sense_names rows

-- the name is one of these, byte for byte
abbrev pub has_name : List ℕ → List (List ℕ) → Bool
has_name name [] = false
has_name name (n ∷ ns) = bytes_eq n name || has_name name ns

-- each is a name, isn't reserved, and stands once
abbrev pub names_fit : List (List ℕ) → Bool
names_fit [] = true
names_fit (n ∷ ns) = ((is_name n && not (is_reserved n)) && not (has_name n ns)) && names_fit ns

-- there are at most 16 registers and 16 senses
abbrev pub are_few : Program → Bool
are_few p = nat_le (length p.regs) 16 && nat_le (length p.senses) 16

-- at most 200 lines, and at most 8 `if` open at once
abbrev pub is_short : Program → Bool
is_short p = nat_le (length p.regs + length p.senses + lines_of_all p.body) 200 && nat_le (depth_of_all p.body) 8

-- what may be used where so many senses stand before: all variables and registers, and those senses
abbrev pub known_before : List ClassRow → Program → ℕ → Known
known_before classes p senses = record { vars = var_count classes; regs = length p.regs; senses = senses }

-- what the senses and the body use is there, and no line is too long
unfoldable pub tree_fits : Program → Layout → Bool
tree_fits p layout =
    is_short p && (senses_fit layout.classes (known_before layout.classes p 0) p.senses &&
    stmts_fit layout.classes (known_before layout.classes p (length p.senses)) p.body)

-- the rule fits a plan with these classes: few and proper names, and a tree within the limits that uses what is there
unfoldable pub fits : Program → Layout → Bool
fits p layout = are_few p && (names_fit (reg_names p.regs ++ sense_names p.senses) && tree_fits p layout)
