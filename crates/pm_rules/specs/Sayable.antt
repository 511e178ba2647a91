-- What a line may say in a scope: the names that it uses are there, and the one that it declares may be declared.
use Rattle.std.specs.Prelude.{◌≡◌, ℕ, ◌==◌, ◌<◌, Bool, true, false, ◌&&◌, nat_lt, List, []}
use Rattle.std.specs.Prelude.{◌++◌, get_or, length}
use Rattle.pm_base.specs.Fits.{change_known, is_known, sense_known}
use Rattle.pm_base.specs.declared.fits.Known.{Known}
use Rattle.pm_base.specs.declared.program.Stmt.{Stmt}
use Rattle.pm_base.specs.declared.program.Stmt.TheFolds.{fold-Stmt}
use Rattle.pm_base.specs.declared.program.Stmt.TheOpen.{Stmt-F}
use Rattle.pm_rules.specs.Grammar.{AreDistinct}
use Rattle.pm_rules.specs.Reading.{Scope, class_names, class_rows}
use Rattle.pm_rules.specs.Statements.{is_free}
use Rattle.pm_rules.specs.declared.said.Said.{Said}
use Rattle.pm_rules.specs.declared.said.Said.TheVariants as said

-- how many variables, registers and senses there are
abbrev pub known_in : Scope → Known
known_in sc = record { vars = length sc.table.vars; regs = length sc.regs; senses = length sc.senses }

-- let, set, wait, and add in version 2; an `if` has lines of its own
abbrev pub sayable_step : Scope → ℕ → Stmt-F Bool → Bool
sayable_step sc version (Stmt-F.Let reg e) = nat_lt reg (length sc.regs) && is_known (known_in sc) e
sayable_step sc version (Stmt-F.If test first second) = false
sayable_step sc version (Stmt-F.Set place x y) = change_known (class_rows sc.table) (known_in sc) place x y
sayable_step sc version (Stmt-F.Add place x y) =
    version == 2 && change_known (class_rows sc.table) (known_in sc) place x y
sayable_step sc version (Stmt-F.Wait e) = is_known (known_in sc) e

-- so of a statement of one line
abbrev pub does_sayable : Scope → ℕ → Stmt → Bool
does_sayable sc version = fold-Stmt Bool (sayable_step sc version)

-- each variable, class, register and sense that is used is there, an indexed class has a member, and a declared name
-- is a name that isn't reserved
abbrev pub is_sayable : Scope → ℕ → Said → Bool
is_sayable sc version (said.Reg w z) = is_free w
is_sayable sc version (said.Sense w s) = is_free w && sense_known (class_rows sc.table) (known_in sc) s
is_sayable sc version (said.Does s) = does_sayable sc version s
is_sayable sc version (said.If test) = is_known (known_in sc) test
is_sayable sc version said.Else = true
is_sayable sc version said.End = true

-- names are distinct within their kind, and those of registers and senses may be declared
pub record IsScope (sc : Scope) : Type 0 where
  pub classes : AreDistinct (class_names sc.table)
  pub vars : AreDistinct sc.table.vars
  pub regs : AreDistinct sc.regs
  pub senses : AreDistinct sc.senses
  pub free_regs : (r : ℕ) → r < length sc.regs → is_free (get_or sc.regs r []) ≡ true
  pub free_senses : (k : ℕ) → k < length sc.senses → is_free (get_or sc.senses k []) ≡ true

-- a scope with more registers and senses behind those that it has
abbrev pub extended : Scope → List (List ℕ) → List (List ℕ) → Scope
extended sc regs senses = record { table = sc.table; regs = sc.regs ++ regs; senses = sc.senses ++ senses }
