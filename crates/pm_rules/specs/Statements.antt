-- What a line says, from its tokens.
use Rattle.std.specs.Prelude.{ℕ, ◌==◌, Bool, true, not, ◌&&◌, if◌then◌else◌, List, [], ◌∷◌, ℤ}
use Rattle.std.specs.Prelude.{Option, Some, None, codes}
use Rattle.std.specs.Str.{bytes_eq}
use Rattle.pm_base.specs.Names.{is_name, is_reserved}
use Rattle.pm_base.specs.declared.program.Expr.{Expr}
use Rattle.pm_base.specs.declared.program.Place.{Place}
use Rattle.pm_base.specs.declared.program.Sense.{Sense}
use Rattle.pm_base.specs.declared.program.Sense.TheVariants as sense
use Rattle.pm_base.specs.declared.program.Stmt.TheVariants as stmt
use Rattle.pm_tokens.specs.Answers.{◌>>=◌}
use Rattle.pm_rules.specs.Reading.{Found, Scope, after, class_names, expr, is_assign, is_comma, name_at, number_in}
use Rattle.pm_rules.specs.Reading.{place}
use Rattle.pm_tokens.specs.Tokens.{Tok, name, number, symbol}
use Rattle.pm_rules.specs.declared.said.Said.{Said}
use Rattle.pm_rules.specs.declared.said.Said.TheVariants as said

-- what a line says, and whether all the names that it uses are there
abbrev pub Read : Type 0
Read = Said × Bool

-- a word that may be declared
unfoldable pub is_free : List ℕ → Bool
is_free w = is_name w && not (is_reserved w)

-- all of the tokens are read
abbrev pub whole : {A : Type 0} → A → List Tok → Option A
whole a [] = Some a
whole a (t ∷ ts) = None

-- a number, and what stands after it
unfoldable pub number_at : List Tok → Option (ℤ × List Tok)
number_at [] = None
number_at (number z ∷ ts) = Some (z, ts)
number_at (name w ∷ ts) = None
number_at (symbol s ∷ ts) = None

-- the name that is declared, and what stands after it
unfoldable pub declared : List Tok → Option (List ℕ × List Tok)
declared ts = do
  w ← name_at ts
  if is_free w.0 then Some w else None

-- the name that is declared, and what stands after the `=` behind it
unfoldable pub assigned : List Tok → Option (List ℕ × List Tok)
assigned ts = do
  w ← declared ts
  rest ← after is_assign w.1
  Some (w.0, rest)

-- NAME NUMBER, after `reg`
unfoldable pub reg_line : List Tok → Option Read
reg_line ts = do
  w ← declared ts
  z ← number_at w.1
  whole (said.Reg w.0 z.0, true) z.1

-- NAME = PLACE, after `read`
unfoldable pub read_line : Scope → List Tok → Option Read
read_line sc ts = do
  w ← assigned ts
  at ← place sc w.1
  whole (said.Sense w.0 (sense.Read at.0.0), at.0.1) at.1

-- two expressions, one after the other
unfoldable pub two : Scope → List Tok → Option (Found (Expr × Expr))
two sc ts = do
  a ← expr sc ts
  b ← expr sc a.1
  Some (((a.0.0, b.0.0), a.0.1 && b.0.1), b.1)

-- x0 x1, then y0 y1
abbrev pub scanned : ℕ × Bool → (Expr × Expr) × Bool → (Expr × Expr) × Bool → Sense × Bool
scanned class across along =
    (sense.Scan class.0 across.0.0 across.0.1 along.0.0 along.0.1, class.1 && (across.1 && along.1))

-- CLASS EXPR EXPR EXPR EXPR
unfoldable pub window : Scope → List Tok → Option (Found Sense)
window sc ts = do
  w ← name_at ts
  across ← two sc w.1
  along ← two sc across.1
  Some (scanned (number_in (class_names sc.table) w.0) across.0 along.0, along.1)

-- NAME = CLASS EXPR EXPR EXPR EXPR, after `scan`
unfoldable pub scan_line : Scope → List Tok → Option Read
scan_line sc ts = do
  w ← assigned ts
  s ← window sc w.1
  whole (said.Sense w.0 s.0.0, s.0.1) s.1

-- NAME = EXPR, after `let`
unfoldable pub let_line : Scope → List Tok → Option Read
let_line sc ts = do
  w ← name_at ts
  rest ← after is_assign w.1
  e ← expr sc rest
  whole (said.Does (stmt.Let (number_in sc.regs w.0).0 e.0.0), (number_in sc.regs w.0).1 && e.0.1) e.1

-- the place and the two expressions of a `set` or `add`, and whether all their names are there
abbrev pub Change : Type 0
Change = (Place × (Expr × Expr)) × Bool

-- PLACE = EXPR , EXPR, after `set` or `add`
unfoldable pub change : Scope → List Tok → Option Change
change sc ts = do
  at ← place sc ts
  rest ← after is_assign at.1
  x ← expr sc rest
  second ← after is_comma x.1
  y ← expr sc second
  whole ((at.0.0, (x.0.0, y.0.0)), at.0.1 && (x.0.1 && y.0.1)) y.1

-- the change, after `set`
unfoldable pub set_line : Scope → List Tok → Option Read
set_line sc ts = do
  c ← change sc ts
  Some (said.Does (stmt.Set c.0.0 c.0.1.0 c.0.1.1), c.1)

-- the change, after `add`
unfoldable pub add_line : Scope → List Tok → Option Read
add_line sc ts = do
  c ← change sc ts
  Some (said.Does (stmt.Add c.0.0 c.0.1.0 c.0.1.1), c.1)

-- EXPR alone, after `wait` or `if`
unfoldable pub only : Scope → List Tok → Option (Expr × Bool)
only sc ts = do
  e ← expr sc ts
  whole e.0 e.1

-- the number of the wait, after `wait`
unfoldable pub wait_line : Scope → List Tok → Option Read
wait_line sc ts = do
  e ← only sc ts
  Some (said.Does (stmt.Wait e.0), e.1)

-- the test, after `if`
unfoldable pub if_line : Scope → List Tok → Option Read
if_line sc ts = do
  e ← only sc ts
  Some (said.If e.0, e.1)

-- what stands after the first word; `add` is a statement in version 2 alone
unfoldable pub after_word : Scope → ℕ → List ℕ → List Tok → Option Read
after_word sc version w ts =
    if bytes_eq w (codes "reg") then reg_line ts
    else if bytes_eq w (codes "read") then read_line sc ts
    else if bytes_eq w (codes "scan") then scan_line sc ts
    else if bytes_eq w (codes "let") then let_line sc ts
    else if bytes_eq w (codes "set") then set_line sc ts
    else if bytes_eq w (codes "wait") then wait_line sc ts
    else if bytes_eq w (codes "if") then if_line sc ts
    else if bytes_eq w (codes "else") then whole (said.Else, true) ts
    else if bytes_eq w (codes "end") then whole (said.End, true) ts
    else if bytes_eq w (codes "add") && version == 2 then add_line sc ts else None

-- a statement is its first word and what stands after it
unfoldable pub statement : Scope → ℕ → List Tok → Option Read
statement sc version [] = None
statement sc version (name w ∷ ts) = after_word sc version w ts
statement sc version (number z ∷ ts) = None
statement sc version (symbol s ∷ ts) = None
