-- Expressions and places, from tokens.
use Rattle.std.specs.Prelude.{ℕ, zero, suc, ◌+◌, ◌^◌, nat_lt, Bool, true, false, ◌&&◌}
use Rattle.std.specs.Prelude.{if◌then◌else◌, List, [], ◌∷◌, map, Option, Some, None, option_map, codes}
use Rattle.std.specs.Str.{bytes_eq}
use Rattle.pm_base.specs.Layouts.{class_row}
use Rattle.pm_base.specs.Names.{is_reserved}
use Rattle.pm_base.specs.declared.layout.ClassRow.{ClassRow}
use Rattle.pm_base.specs.declared.program.Expr.{Expr}
use Rattle.pm_base.specs.declared.program.Expr.TheVariants.{Num, Now, Me, Reg, Part, Bin}
use Rattle.pm_base.specs.declared.program.Field.{Field}
use Rattle.pm_base.specs.declared.program.Field.TheVariants as field
use Rattle.pm_base.specs.declared.program.Op.{Op}
use Rattle.pm_base.specs.declared.program.Op.TheVariants as op
use Rattle.pm_base.specs.declared.program.Place.{Place}
use Rattle.pm_base.specs.declared.program.Place.TheVariants.{Var, Member}
use Rattle.pm_tokens.specs.Answers.{◌>>=◌}
use Rattle.pm_tokens.specs.Tokens.{Tok, name, number, symbol}
use Rattle.pm_tokens.specs.declared.token.Symbol.{Symbol}
use Rattle.pm_tokens.specs.declared.token.Symbol.TheVariants as sym

-- what the names of a scenario stand for: its classes in order, and its variables in order
pub record Table : Type 0 where
  pub classes : List (List ℕ × ClassRow)
  pub vars : List (List ℕ)

-- the names that a line may use: those of the scenario, and the registers and senses of the lines before it
pub record Scope : Type 0 where
  pub table : Table
  pub regs : List (List ℕ)
  pub senses : List (List ℕ)

-- the names of a scenario's classes, in order
abbrev pub class_names : Table → List (List ℕ)
class_names t = map (λ c. c.0) t.classes

-- where the members of each class stand
abbrev pub class_rows : Table → List ClassRow
class_rows t = map (λ c. c.1) t.classes

-- a number of 32 bits
abbrev pub in_u32 : ℕ → Option ℕ
in_u32 n = if nat_lt n (2 ^ 32) then Some n else None

-- the first number of a name in a list that begins at number i, where it fits 32 bits
abbrev pub number_from : List ℕ → ℕ → List (List ℕ) → Option ℕ
number_from w i [] = None
number_from w i (n ∷ ns) = if bytes_eq n w then in_u32 i else number_from w (i + 1) ns

-- a name's number: its first place, counted from 0
unfoldable pub number_of : List (List ℕ) → List ℕ → Option ℕ
number_of names w = number_from w 0 names

-- a name's number, and whether it is there; number 0 stands for a name that isn't
abbrev pub known_or_zero : Option ℕ → ℕ × Bool
known_or_zero (Some n) = (n, true)
known_or_zero None = (0, false)

-- so of a name in a list
unfoldable pub number_in : List (List ℕ) → List ℕ → ℕ × Bool
number_in names w = known_or_zero (number_of names w)

-- the symbol `(`
abbrev pub is_open : Symbol → Bool
is_open sym.Open = true
is_open _ = false

-- the symbol `)`
abbrev pub is_close : Symbol → Bool
is_close sym.Close = true
is_close _ = false

-- the symbol `[`
abbrev pub is_left : Symbol → Bool
is_left sym.LeftBracket = true
is_left _ = false

-- the symbol `]`
abbrev pub is_right : Symbol → Bool
is_right sym.RightBracket = true
is_right _ = false

-- the symbol `.`
abbrev pub is_dot : Symbol → Bool
is_dot sym.Dot = true
is_dot _ = false

-- the symbol `,`
abbrev pub is_comma : Symbol → Bool
is_comma sym.Comma = true
is_comma _ = false

-- the symbol `=`
abbrev pub is_assign : Symbol → Bool
is_assign sym.Assign = true
is_assign _ = false

-- what stands after a symbol that passes
unfoldable pub after : (Symbol → Bool) → List Tok → Option (List Tok)
after test [] = None
after test (symbol s ∷ ts) = if test s then Some ts else None
after test (name w ∷ ts) = None
after test (number z ∷ ts) = None

-- a name, and what stands after it
unfoldable pub name_at : List Tok → Option (List ℕ × List Tok)
name_at [] = None
name_at (name w ∷ ts) = Some (w, ts)
name_at (symbol s ∷ ts) = None
name_at (number z ∷ ts) = None

-- the operators of one symbol
abbrev pub operator_by : Symbol → Option Op
operator_by sym.Plus = Some op.Add
operator_by sym.Minus = Some op.Sub
operator_by sym.Star = Some op.Mul
operator_by sym.Slash = Some op.Div
operator_by sym.Percent = Some op.Rem
operator_by sym.Less = Some op.Less
operator_by sym.AtMost = Some op.AtMost
operator_by sym.Equal = Some op.Equal
operator_by sym.Differ = Some op.Differ
operator_by _ = None

-- the operators that are words
abbrev pub operator_named : List ℕ → Option Op
operator_named w =
    if bytes_eq w (codes "min") then Some op.Min
    else if bytes_eq w (codes "max") then Some op.Max else None

-- OP, and what stands after it
unfoldable pub operator : List Tok → Option (Op × List Tok)
operator [] = None
operator (symbol s ∷ ts) = option_map (λ o. (o, ts)) (operator_by s)
operator (name w ∷ ts) = option_map (λ o. (o, ts)) (operator_named w)
operator (number z ∷ ts) = None

-- the fields, by their words
abbrev pub field_named : List ℕ → Option Field
field_named w =
    if bytes_eq w (codes "n") then Some field.N else if bytes_eq w (codes "i") then Some field.I
    else if bytes_eq w (codes "x") then Some field.X else if bytes_eq w (codes "y") then Some field.Y
    else if bytes_eq w (codes "sx") then Some field.Sx
    else if bytes_eq w (codes "sy") then Some field.Sy else None

-- FIELD, and what stands after it
unfoldable pub field_at : List Tok → Option (Field × List Tok)
field_at [] = None
field_at (name w ∷ ts) = option_map (λ f. (f, ts)) (field_named w)
field_at (symbol s ∷ ts) = None
field_at (number z ∷ ts) = None

-- a tree, whether all of its names are there, and the tokens after it
abbrev pub Found : Type 0 → Type 0
Found A = (A × Bool) × List Tok

-- SENSE . FIELD, after its dot
unfoldable pub part : Scope → List ℕ → List Tok → Option (Found Expr)
part sc w ts = do
  f ← field_at ts
  Some ((Part (number_in sc.senses w).0 f.0, (number_in sc.senses w).1), f.1)

-- REGISTER
unfoldable pub register : Scope → List ℕ → Expr × Bool
register sc w = (Reg (number_in sc.regs w).0, (number_in sc.regs w).1)

-- a register, or a sense where a dot follows
abbrev pub dotted : Scope → List ℕ → List Tok → Option (List Tok) → Option (Found Expr)
dotted sc w ts (Some rest) = part sc w rest
dotted sc w ts None = Some (register sc w, ts)

-- `now`, `me`, REGISTER or SENSE . FIELD; a reserved word is neither
unfoldable pub named : Scope → List ℕ → List Tok → Option (Found Expr)
named sc w ts =
    if bytes_eq w (codes "now") then Some ((Now, true), ts)
    else if bytes_eq w (codes "me") then Some ((Me, true), ts)
    else if is_reserved w then None
    else dotted sc w ts (after is_dot ts)

-- an operator between two expressions, whose names are there where those of both are
unfoldable pub joined : Op → Expr × Bool → Expr × Bool → Expr × Bool
joined o a b = (Bin o a.0 b.0, a.1 && b.1)

-- both sides of an operator, before the bracket that closes them
unfoldable pub closed : Op → Expr × Bool → Expr × Bool → List Tok → Option (Found Expr)
closed o a b ts = do
  rest ← after is_close ts
  Some (joined o a b, rest)

-- an expression with at most n brackets in one another: NUMBER, a name as above, or ( EXPR OP EXPR )
unfoldable pub expression : Scope → ℕ → List Tok → Option (Found Expr)
expression sc zero ts = None
expression sc (suc n) [] = None
expression sc (suc n) (number z ∷ ts) = Some ((Num z, true), ts)
expression sc (suc n) (name w ∷ ts) = named sc w ts
expression sc (suc n) (symbol s ∷ ts) =
    if is_open s then (do
      a ← expression sc n ts
      o ← operator a.1
      b ← expression sc n o.1
      closed o.0 a.0 b.0 b.1)
    else None

-- a line has at most 64 tokens, so that no more brackets can stand in it
abbrev pub expr : Scope → List Tok → Option (Found Expr)
expr sc ts = expression sc 64 ts

-- VARIABLE
unfoldable pub variable : Scope → List ℕ → Place × Bool
variable sc w = (Var (number_in sc.table.vars w).0, (number_in sc.table.vars w).1)

-- the class has a member
abbrev pub has_members : Table → ℕ → Bool
has_members t class = nat_lt 0 (class_row (class_rows t) class).count

-- CLASS [ EXPR ], where the class is known by its number and whether it is there
abbrev pub member_at : Table → ℕ × Bool → Expr × Bool → Place × Bool
member_at t class at = (Member class.0 at.0, (class.1 && has_members t class.0) && at.1)

-- the member of a class at an index, after its `[`
unfoldable pub indexed : Scope → List ℕ → List Tok → Option (Found Place)
indexed sc w ts = do
  at ← expr sc ts
  rest ← after is_right at.1
  Some (member_at sc.table (number_in (class_names sc.table) w) at.0, rest)

-- a member where a `[` follows, else a variable
abbrev pub bracketed : Scope → List ℕ → List Tok → Option (List Tok) → Option (Found Place)
bracketed sc w ts (Some inner) = indexed sc w inner
bracketed sc w ts None = Some (variable sc w, ts)

-- a member of a class where a bracket follows, else a variable
unfoldable pub place : Scope → List Tok → Option (Found Place)
place sc ts = do
  w ← name_at ts
  bracketed sc w.0 w.1 (after is_left w.1)
