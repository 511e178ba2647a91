-- The texts of the grammar: what must stand on their lines for a program.
use Rattle.std.specs.Prelude.{◌++◌, ◌⊎◌, Ok, Err, ◌≡◌, ◌&&◌, ℕ, ◌+◌, ◌≤◌, ◌<◌, Bool}
use Rattle.std.specs.Prelude.{true, false, List, [], ◌∷◌, length, map, get_or, Option, Some, None, option_map}
use Rattle.std.specs.List.{AllByRecursion}
use Rattle.pm_base.specs.Fits.{all_true, fits}
use Rattle.pm_base.specs.Layouts.{var_count}
use Rattle.pm_base.specs.declared.program.Program.{Program}
use Rattle.pm_base.specs.declared.program.Stmt.{Stmt}
use Rattle.pm_base.specs.declared.program.Stmt.TheFolds.{fold-Stmt}
use Rattle.pm_base.specs.declared.program.Stmt.TheOpen.{Stmt-F}
use Rattle.pm_tokens.specs.Lexing.{lex}
use Rattle.pm_tokens.specs.Lines.{lines_of, code}
use Rattle.pm_rules.specs.Reading.{Table, class_names, class_rows, number_of}
use Rattle.pm_rules.specs.Rules.{after_line, after_lines, empty, is_empty}
use Rattle.pm_rules.specs.Spelling.{program_says, program_scope, spell_said}
use Rattle.pm_tokens.specs.Tokens.{Tok}
use Rattle.pm_rules.specs.declared.draft.Draft.{Draft}
use Rattle.pm_rules.specs.declared.fault.RuleFault.{RuleFault}
use Rattle.pm_rules.specs.declared.fault.RuleFault.TheVariants as fault
use Rattle.pm_rules.specs.declared.said.Said.{Said}
use Rattle.pm_rules.specs.declared.said.Said.TheVariants as said

-- a line of a text that isn't skipped: its number and its tokens
pub record Row : Type 0 where
  pub number : ℕ
  pub tokens : List Tok

-- a line before those rows; one without a token is skipped
abbrev pub with_row : ℕ → List Tok → Option (List Row) → Option (List Row)
with_row n [] rows = rows
with_row n (k ∷ ks) rows = option_map (λ (rs : List Row). record { number = n; tokens = k ∷ ks } ∷ rs) rows

-- the same, and no rows where some characters of the line are no token
abbrev pub or_none : ℕ → Option (List Tok) → Option (List Row) → Option (List Row)
or_none n None rows = None
or_none n (Some ks) rows = with_row n ks rows

-- the lines of a text that aren't skipped, numbered from n on, each with its tokens; none where some characters are no
-- token
abbrev pub rows_from : ℕ → List (List ℕ) → Option (List Row)
rows_from n [] = Some []
rows_from n (l ∷ ls) = or_none n (lex (code l)) (rows_from (n + 1) ls)

-- a line within the limits of number and length
pub record IsShort (row : Row) : Type 0 where
  pub number : row.number ≤ 200
  pub tokens : length row.tokens ≤ 64

-- no `if` is open
abbrev pub ends : List Bool → Bool
ends [] = true
ends (o ∷ os) = false

-- each `else` and `end` has an open `if`, an `if` has at most one `else`, and none is open at the end; for each open
-- `if`, the innermost first, whether its `else` came
abbrev pub is_matched : List Bool → List Said → Bool
is_matched opens [] = ends opens
is_matched opens (said.If test ∷ ss) = is_matched (false ∷ opens) ss
is_matched (false ∷ opens) (said.Else ∷ ss) = is_matched (true ∷ opens) ss
is_matched (true ∷ opens) (said.Else ∷ ss) = false
is_matched [] (said.Else ∷ ss) = false
is_matched (o ∷ opens) (said.End ∷ ss) = is_matched opens ss
is_matched [] (said.End ∷ ss) = false
is_matched opens (said.Reg w z ∷ ss) = is_matched opens ss
is_matched opens (said.Sense w s ∷ ss) = is_matched opens ss
is_matched opens (said.Does s ∷ ss) = is_matched opens ss

-- an `else` right before its `end` is left out
abbrev pub drops_else : Said → List Said → List Said
drops_else said.Else (said.End ∷ ss) = said.End ∷ ss
drops_else s ss = s ∷ ss

-- the lines without each `else` of an empty second list, which may stand or be left out
abbrev pub without_idle_else : List Said → List Said
without_idle_else [] = []
without_idle_else (s ∷ ss) = drops_else s (without_idle_else ss)

-- a statement without `add`, which version 1 has not
abbrev pub plain_step : Stmt-F Bool → Bool
plain_step (Stmt-F.Let reg e) = true
plain_step (Stmt-F.If test first second) = all_true first && all_true second
plain_step (Stmt-F.Set place x y) = true
plain_step (Stmt-F.Add place x y) = false
plain_step (Stmt-F.Wait e) = true

-- no statement in it is an `add`
abbrev pub is_plain : Stmt → Bool
is_plain = fold-Stmt Bool plain_step

-- the statements of that version
abbrev pub IsOfVersion : ℕ → Program → Type 0
IsOfVersion version p = version ≡ 1 → all_true (map is_plain p.body) ≡ true

-- the text says what the program's lines say, each line spelled in the grammar's order, within the limits
pub record IsRule (t : Table) (version : ℕ) (text : List ℕ) (p : Program) : Type 0 where
  pub rows : List Row
  pub said : List Said
  pub lexed : rows_from 1 (lines_of text) ≡ Some rows
  pub spelled : map (λ (r : Row). r.tokens) rows ≡ map (spell_said (program_scope t p)) said
  pub matched : is_matched [] said ≡ true
  pub says : without_idle_else said ≡ program_says p
  pub short : AllByRecursion IsShort rows
  pub fits : fits p (record { classes = class_rows t }) ≡ true
  pub of_version : IsOfVersion version p

-- each name stands for its own number
abbrev pub AreDistinct : List (List ℕ) → Type 0
AreDistinct names = (k : ℕ) → k < length names → number_of names (get_or names k []) ≡ Some k

-- a scenario's names: distinct within their kind, and as many variables as the classes have
pub record IsTable (t : Table) : Type 0 where
  pub classes : AreDistinct (class_names t)
  pub vars : AreDistinct t.vars
  pub count : length t.vars ≡ var_count (class_rows t)

-- a line has that fault, and all lines before it pass
pub record IsLineFault (t : Table) (version : ℕ) (text : List ℕ) (f : RuleFault) : Type 0 where
  pub before : List (List ℕ)
  pub line : List ℕ
  pub more : List (List ℕ)
  pub draft : Draft
  pub lines : lines_of text ≡ before ++ line ∷ more
  pub passed : after_lines t version 1 before empty ≡ Ok draft
  pub faulty : after_line t version (length before + 1) line draft ≡ Err f

-- all lines pass, and an `if` is still open at the end, which is the line behind the last one
pub record IsEndFault (t : Table) (version : ℕ) (text : List ℕ) (f : RuleFault) : Type 0 where
  pub draft : Draft
  pub passed : after_lines t version 1 (lines_of text) empty ≡ Ok draft
  pub unclosed : is_empty draft.frames ≡ false
  pub is : f ≡ fault.Nesting (length (lines_of text) + 1)

-- the fault of the first faulty line
abbrev pub IsFirstFault : Table → ℕ → List ℕ → RuleFault → Type 0
IsFirstFault t version text f = IsLineFault t version text f ⊎ IsEndFault t version text f
