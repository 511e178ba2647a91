-- The program of a rule's text, or the first fault of its first faulty line.
use Rattle.std.specs.Prelude.{ℕ, ◌+◌, nat_lt, nat_le, Bool, true, false, not, ◌&&◌, ◌||◌}
use Rattle.std.specs.Prelude.{if◌then◌else◌, List, [], ◌∷◌, ◌++◌, length, Option, Some, None, Result}
use Rattle.std.specs.Prelude.{Ok, Err}
use Rattle.pm_base.specs.Fits.{has_name, reg_names, sense_names}
use Rattle.pm_base.specs.declared.program.Expr.{Expr}
use Rattle.pm_base.specs.declared.program.Program.{Program}
use Rattle.pm_base.specs.declared.program.Stmt.{Stmt}
use Rattle.pm_base.specs.declared.program.Stmt.TheVariants as stmt
use Rattle.pm_tokens.specs.Lexing.{lex}
use Rattle.pm_tokens.specs.Lines.{lines_of, code}
use Rattle.pm_rules.specs.Reading.{Scope, Table}
use Rattle.pm_rules.specs.Statements.{Read, statement}
use Rattle.pm_tokens.specs.Tokens.{Tok}
use Rattle.pm_rules.specs.declared.draft.Draft.{Draft}
use Rattle.pm_rules.specs.declared.draft.Frame.{Frame}
use Rattle.pm_rules.specs.declared.fault.RuleFault.{RuleFault}
use Rattle.pm_rules.specs.declared.fault.RuleFault.TheVariants as fault
use Rattle.pm_rules.specs.declared.said.Said.{Said}
use Rattle.pm_rules.specs.declared.said.Said.TheVariants as said

-- what follows, where there is no fault yet
abbrev pub go_on : {A B : Type 0} → (A → Result B RuleFault) → Result A RuleFault → Result B RuleFault
go_on f (Ok a) = f a
go_on f (Err e) = Err e

-- before the first line
abbrev pub empty : Draft
empty = record { regs = []; senses = []; frames = []; body = [] }

-- nothing stands in the list
abbrev pub is_empty : {A : Type 0} → List A → Bool
is_empty [] = true
is_empty (x ∷ xs) = false

-- some statement of the body stands on an earlier line
abbrev pub is_begun : Draft → Bool
is_begun d = not (is_empty d.frames && is_empty d.body)

-- a register after any other statement, or a sense after the body began
abbrev pub is_out_of_order : Draft → Said → Bool
is_out_of_order d (said.Reg w z) = not (is_empty d.senses) || is_begun d
is_out_of_order d (said.Sense w s) = is_begun d
is_out_of_order d _ = false

-- a frame in front of those
abbrev pub with_first : Frame → Option (List Frame × Frame) → List Frame × Frame
with_first f None = ([], f)
with_first f (Some (fs, g)) = (f ∷ fs, g)

-- the frames before the last one, and the last one
abbrev pub last_frame : List Frame → Option (List Frame × Frame)
last_frame [] = None
last_frame (f ∷ fs) = Some (with_first f (last_frame fs))

-- its `else` has not come
abbrev pub has_no_first : Option (List Stmt) → Bool
has_no_first None = true
has_no_first (Some stmts) = false

-- an `if` is open, and its `else` has not come
abbrev pub takes_else : Option (List Frame × Frame) → Bool
takes_else None = false
takes_else (Some (fs, f)) = has_no_first f.first

-- a ninth open `if`, an `else` or `end` without an open `if`, or a second `else`
abbrev pub is_unmatched : Draft → Said → Bool
is_unmatched d (said.If test) = nat_le 8 (length d.frames)
is_unmatched d said.Else = not (takes_else (last_frame d.frames))
is_unmatched d said.End = is_empty d.frames
is_unmatched d _ = false

-- a 17th register or sense
abbrev pub is_one_too_many : Draft → Said → Bool
is_one_too_many d (said.Reg w z) = nat_le 16 (length d.regs)
is_one_too_many d (said.Sense w s) = nat_le 16 (length d.senses)
is_one_too_many d _ = false

-- a register or a sense has this name
abbrev pub is_declared : Draft → List ℕ → Bool
is_declared d w = has_name w (reg_names d.regs) || has_name w (sense_names d.senses)

-- a name that is declared already
abbrev pub is_twice : Draft → Said → Bool
is_twice d (said.Reg w z) = is_declared d w
is_twice d (said.Sense w s) = is_declared d w
is_twice d _ = false

-- the first of these faults that is there
abbrev pub first_of : List (Bool × RuleFault) → Option RuleFault
first_of [] = None
first_of (c ∷ cs) = if c.0 then Some c.1 else first_of cs

-- the faults of a statement of line n, in order
unfoldable pub fault_of : ℕ → Draft → Read → Option RuleFault
fault_of n d r = first_of (
    (is_out_of_order d r.0, fault.Order n) ∷
    (is_unmatched d r.0, fault.Nesting n) ∷
    (is_one_too_many d r.0, fault.TooLong n) ∷
    (is_twice d r.0, fault.Twice n) ∷
    (not r.1, fault.Unknown n) ∷ [])

-- `if` opens a list; the one outside it is gone on with after its `end`
abbrev pub opened : Expr → Draft → Draft
opened test d = record d {
  frames = d.frames ++ record { test = test; first = None; outer = d.body } ∷ [];
  body = [];
}

-- `else` closes the first list and opens the second
abbrev pub turned : Option (List Frame × Frame) → Draft → Draft
turned None d = d
turned (Some (fs, f)) d = record d { frames = fs ++ record f { first = Some d.body } ∷ []; body = [] }

-- the whole `if`, where its last list is this one; a missing `else` is an empty list
abbrev pub whole_if : Expr → Option (List Stmt) → List Stmt → Stmt
whole_if test None body = stmt.If test body []
whole_if test (Some first) body = stmt.If test first body

-- `end` puts the `if` into the list outside it
abbrev pub ended : Option (List Frame × Frame) → Draft → Draft
ended None d = d
ended (Some (fs, f)) d = record d { frames = fs; body = f.outer ++ whole_if f.test f.first d.body ∷ [] }

-- one more statement
unfoldable pub with_said : Said → Draft → Draft
with_said (said.Reg w z) d = record d { regs = d.regs ++ record { name = w; start = z } ∷ [] }
with_said (said.Sense w s) d = record d { senses = d.senses ++ record { name = w; sense = s } ∷ [] }
with_said (said.Does s) d = record d { body = d.body ++ s ∷ [] }
with_said (said.If test) d = opened test d
with_said said.Else d = turned (last_frame d.frames) d
with_said said.End d = ended (last_frame d.frames) d

-- the names that the next line may use
abbrev pub scope_of : Table → Draft → Scope
scope_of t d = record { table = t; regs = reg_names d.regs; senses = sense_names d.senses }

-- the fault, or else the draft
abbrev pub or_draft : Option RuleFault → Draft → Result Draft RuleFault
or_draft None d = Ok d
or_draft (Some f) d = Err f

-- after a statement of line n
abbrev pub after_read : ℕ → Option Read → Draft → Result Draft RuleFault
after_read n None d = Err (fault.Word n)
after_read n (Some r) d = or_draft (fault_of n d r) (with_said r.0 d)

-- after the tokens of line n; a line without any is skipped
abbrev pub after_tokens : Table → ℕ → ℕ → Option (List Tok) → Draft → Result Draft RuleFault
after_tokens t version n (Some []) d = Ok d
after_tokens t version n None d = if nat_lt 200 n then Err (fault.TooLong n) else Err (fault.Word n)
after_tokens t version n (Some (k ∷ ks)) d =
    if nat_lt 200 n || nat_lt 64 (length (k ∷ ks)) then Err (fault.TooLong n)
    else after_read n (statement (scope_of t d) version (k ∷ ks)) d

-- after line n
unfoldable pub after_line : Table → ℕ → ℕ → List ℕ → Draft → Result Draft RuleFault
after_line t version n line d = after_tokens t version n (lex (code line)) d

-- after the lines from number n on
unfoldable pub after_lines : Table → ℕ → ℕ → List (List ℕ) → Draft → Result Draft RuleFault
after_lines t version n [] d = Ok d
after_lines t version n (l ∷ ls) d = go_on (after_lines t version (n + 1) ls) (after_line t version n l d)

-- after the last line, which has the number before n, no `if` is open
unfoldable pub finished : ℕ → Draft → Result Program RuleFault
finished n d =
    if is_empty d.frames then Ok (record { regs = d.regs; senses = d.senses; body = d.body })
    else Err (fault.Nesting n)

-- the program of a text in that version of the rule language, or its first fault
unfoldable pub parsed : Table → ℕ → List ℕ → Result Program RuleFault
parsed t version text =
    go_on (finished (length (lines_of text) + 1)) (after_lines t version 1 (lines_of text) empty)
