-- The step of a rule: the next query, or what the rule does with the answers.
use Rattle.std.specs.Prelude.{◌≡◌, ℕ, ◌<◌, ◌≤◌, Bool, true, false, if◌then◌else◌, nat_lt, max}
use Rattle.std.specs.Prelude.{List, [], ◌∷◌, ◌++◌, length, slice_get, Option, Some, None, ℤ, pos, negsuc}
use Rattle.std.specs.Prelude.{set, map}
use Rattle.std.specs.List.{AllPairs, filter}
use Rattle.std.specs.Int.{w64, saturate_signed}
use Rattle.pm_base.specs.Layouts.{class_row, member_of}
use Rattle.pm_base.specs.declared.program.Expr.{Expr}
use Rattle.pm_base.specs.declared.program.Place.{Place}
use Rattle.pm_base.specs.declared.program.Place.TheVariants.{Var, Member}
use Rattle.pm_base.specs.declared.program.Program.{Program}
use Rattle.pm_base.specs.declared.program.Sense.{Sense}
use Rattle.pm_base.specs.declared.program.Sense.TheVariants.{Read, Scan}
use Rattle.pm_base.specs.declared.program.SenseRow.{SenseRow}
use Rattle.pm_base.specs.declared.program.Stmt.{Stmt}
use Rattle.pm_base.specs.declared.program.Stmt.TheFolds.{fold-Stmt}
use Rattle.pm_base.specs.declared.program.Stmt.TheOpen.{Stmt-F}
use Rattle.pm_base.specs.declared.rows.Act.{Act}
use Rattle.pm_base.specs.declared.value.Change.{Change}
use Rattle.pm_base.specs.declared.value.Change.TheVariants as change
use Rattle.pm_base.specs.declared.value.Query.{Query}
use Rattle.pm_base.specs.declared.value.Query.TheVariants as query
use Rattle.pm_base.specs.declared.value.Value.{Value}
use Rattle.pm_base.specs.declared.value.Write.{Write}
use Rattle.pm_step.specs.Arithmetic.{is_zero}
use Rattle.pm_step.specs.Expressions.{Sight, value}
use Rattle.pm_step.specs.declared.Deeds.{Deeds}
use Rattle.pm_step.specs.declared.Next.{Next}
use Rattle.pm_step.specs.declared.Next.TheVariants as next

-- the variable of a place
abbrev pub variable : Sight → Place → ℕ
variable s (Var v) = v
variable s (Member class at) = member_of (class_row s.classes class) (value s at)

-- the pair of two expressions, brought back to the ends of 64 bits
abbrev pub pair : Sight → Expr → Expr → Value
pair s x y = record { x = saturate_signed w64 (value s x); y = saturate_signed w64 (value s y) }

-- what a sense asks for
abbrev pub query_of : Sight → Sense → Query
query_of s (Read place) = query.One (variable s place)
query_of s (Scan class x0 x1 y0 y1) =
    query.Class class (record { x0 = value s x0; x1 = value s x1; y0 = value s y0; y1 = value s y1 })

-- the writes to lesser variables, this one, and those to greater ones: it stands in place of an earlier one of its
-- variable
unfoldable pub written : List Write → Write → List Write
written ws w = filter (λ v. nat_lt v.var w.var) ws ++ w ∷ filter (λ v. nat_lt w.var v.var) ws

-- each write is to a lesser variable than those after it
abbrev pub IsRising : List Write → Type 0
IsRising ws = AllPairs (λ v w. v.var < w.var) ws

-- what is seen after these deeds: the registers have changed
abbrev pub sight_at : Sight → Deeds → Sight
sight_at s d = record s { regs = d.regs }

-- the deeds after a change of the variable of a place
abbrev pub with_change : Sight → Place → Change → Deeds → Deeds
with_change s place c d =
    record d { writes = written d.writes (record { var = variable (sight_at s d) place; change = c }) }

-- the deeds after all of these, one after another
abbrev pub all_of : List (Deeds → Deeds) → Deeds → Deeds
all_of [] d = d
all_of (f ∷ fs) d = all_of fs (f d)

-- what a statement does, where each list of an `if` is what its statements do
abbrev pub does_step : Sight → Stmt-F (Deeds → Deeds) → Deeds → Deeds
does_step s (Stmt-F.Let reg e) d = record d { regs = set d.regs reg (value (sight_at s d) e) }
does_step s (Stmt-F.If test first second) d =
    if is_zero (value (sight_at s d) test) then all_of second d else all_of first d
does_step s (Stmt-F.Set place x y) d = with_change s place (change.Set (pair (sight_at s d) x y)) d
does_step s (Stmt-F.Add place x y) d = with_change s place (change.Add (pair (sight_at s d) x y)) d
does_step s (Stmt-F.Wait e) d = record d { wait = value (sight_at s d) e }

-- the deeds after a statement, from those before it
abbrev pub does : Sight → Stmt → Deeds → Deeds
does s = fold-Stmt (Deeds → Deeds) (does_step s)

-- what the statements of a body do
abbrev pub does_all : Sight → List Stmt → Deeds → Deeds
does_all s stmts = all_of (map (does s) stmts)

-- before the body: no writes, and a wait of 1
abbrev pub no_deeds : List ℤ → Deeds
no_deeds regs = record { regs = regs; writes = []; wait = pos 1 }

-- the greater of 1 and the wait
abbrev pub at_least_one : ℤ → ℕ
at_least_one (pos n) = max 1 n
at_least_one (negsuc n) = 1

-- what these deeds come to
abbrev pub act_of : Deeds → Act
act_of d = record { writes = d.writes; regs = d.regs; wait = at_least_one d.wait }

-- the next sense is asked; where there is none, the body acts
abbrev pub ask_or_act : Sight → Program → Option SenseRow → Next
ask_or_act s program (Some row) = next.Ask (query_of s row.sense)
ask_or_act s program None = next.Act (act_of (does_all s program.body (no_deeds s.regs)))

-- the step: with k answers, sense k is asked; with all answers, the body acts
unfoldable pub step : Program → Sight → Next
step program s = ask_or_act s program (slice_get program.senses (length s.answers))

-- whether an agent asks next
abbrev pub is_ask : Next → Bool
is_ask (next.Ask query) = true
is_ask (next.Act act) = false

-- this is so of the act, where there is one
abbrev pub ForAct : (Act → Type 0) → Next → Type 0
ForAct P (next.Ask query) = Unit {0}
ForAct P (next.Act act) = P act

-- the step asks exactly while there are fewer answers than senses
abbrev pub AsksWhileSensesAreLeft : Type 0
AsksWhileSensesAreLeft =
    (program : Program) (s : Sight) → is_ask (step program s) ≡ nat_lt (length s.answers) (length program.senses)

-- an agent waits at least 1
abbrev pub WaitsAtLeastOne : Type 0
WaitsAtLeastOne = (program : Program) (s : Sight) → ForAct (λ act. 1 ≤ act.wait) (step program s)

-- no two writes of a step are to one variable, and they stand in order of variable number
abbrev pub WritesInOrder : Type 0
WritesInOrder = (program : Program) (s : Sight) → ForAct (λ act. IsRising act.writes) (step program s)
