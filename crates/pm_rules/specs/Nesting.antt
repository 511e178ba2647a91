-- What lines say, one after another.
use Rattle.std.specs.Prelude.{◌≡◌, ◌≤◌, ◌+◌, length, ℕ, Bool, true, not, ◌&&◌, List, []}
use Rattle.std.specs.Prelude.{◌∷◌, ◌++◌, Option, Some, None, is_some, Result, Ok}
use Rattle.pm_base.specs.declared.program.Program.{Program}
use Rattle.pm_base.specs.declared.program.Stmt.{Stmt}
use Rattle.pm_base.specs.Fits.{depth_of, stmt_fits}
use Rattle.pm_base.specs.declared.fits.Known.{Known}
use Rattle.pm_rules.specs.Grammar.{Row, is_plain}
use Rattle.pm_rules.specs.Reading.{Table, class_rows}
use Rattle.pm_rules.specs.Sayable.{is_sayable}
use Rattle.pm_rules.specs.Statements.{statement}
use Rattle.pm_rules.specs.declared.fault.RuleFault.{RuleFault}
use Rattle.pm_rules.specs.Rules.{after_read, go_on, scope_of, is_one_too_many, is_out_of_order, is_twice, is_unmatched}
use Rattle.pm_rules.specs.Rules.{with_said}
use Rattle.pm_rules.specs.Spelling.{reg_said, says_all, sense_said, spell_said}
use Rattle.pm_rules.specs.declared.draft.Draft.{Draft}
use Rattle.pm_rules.specs.declared.draft.Frame.{Frame}
use Rattle.pm_rules.specs.declared.said.Said.{Said}
use Rattle.pm_rules.specs.declared.said.Said.TheVariants as said

-- the draft after these lines
abbrev pub all_said : List Said → Draft → Draft
all_said [] d = d
all_said (s ∷ ss) d = all_said ss (with_said s d)

-- a line has none of the faults of order, nesting, number and names declared twice
abbrev pub is_taken : Draft → Said → Bool
is_taken d s =
    not (is_out_of_order d s) && (not (is_unmatched d s) && (not (is_one_too_many d s) && not (is_twice d s)))

-- each of the lines has none of these faults, after those before it
abbrev pub are_taken : Draft → List Said → Bool
are_taken d [] = true
are_taken d (s ∷ ss) = is_taken d s && are_taken (with_said s d) ss

-- the draft of a whole program
abbrev pub draft_of : Program → Draft
draft_of p = record { regs = p.regs; senses = p.senses; frames = []; body = p.body }

-- what the lines of an open `if` say up to its `else`, where that came
abbrev pub first_said : Option (List Stmt) → List Said
first_said None = []
first_said (Some first) = says_all first ++ said.Else ∷ []

-- what the lines say that opened these lists, the outermost first
abbrev pub frames_said : List Frame → List Said
frames_said [] = []
frames_said (f ∷ fs) = says_all f.outer ++ (said.If f.test ∷ (first_said f.first ++ frames_said fs))

-- what the lines of a draft say, without the needless `else` of a closed `if`
abbrev pub draft_says : Draft → List Said
draft_says d = reg_said d.regs ++ (sense_said d.senses ++ (frames_said d.frames ++ says_all d.body))

-- for each open `if`, the innermost first, whether its `else` came
abbrev pub opens : List Frame → List Bool
opens [] = []
opens (f ∷ fs) = opens fs ++ is_some f.first ∷ []

-- a statement of one line
abbrev pub IsOneLine : Said → Type 0
IsOneLine (said.Does s) = says_all (s ∷ []) ≡ said.Does s ∷ []
IsOneLine _ = Unit {0}

-- what the rows of a text say, one after another
abbrev pub after_rows : Table → ℕ → List Row → Draft → Result Draft RuleFault
after_rows t version [] d = Ok d
after_rows t version (r ∷ rs) d =
    go_on (after_rows t version rs) (after_read r.number (statement (scope_of t d) version r.tokens) d)

-- each row is read as its line, with all names there, in the scope of the lines before it
abbrev pub AreRead : Table → ℕ → Draft → List Row → List Said → Type 0
AreRead t version d [] [] = Unit {0}
AreRead t version d (r ∷ rs) (s ∷ ss) =
    (statement (scope_of t d) version r.tokens ≡ Some (s, true)) × AreRead t version (with_said s d) rs ss
AreRead t version d [] (s ∷ ss) = ⊥
AreRead t version d (r ∷ rs) [] = ⊥

-- a line that is taken, whose names are there, within its limit of tokens
pub record IsFine (t : Table) (version : ℕ) (d : Draft) (s : Said) : Type 0 where
  pub taken : is_taken d s ≡ true
  pub sayable : is_sayable (scope_of t d) version s ≡ true
  pub short : length (spell_said (scope_of t d) s) ≤ 64

-- each of the lines is fine in the scope that those before it leave
abbrev pub AreFine : Table → ℕ → Draft → List Said → Type 0
AreFine t version d [] = Unit {0}
AreFine t version d (s ∷ ss) = IsFine t version d s × AreFine t version (with_said s d) ss

-- a statement that fits among so many open `if`s, in that version
pub record IsGood (t : Table) (version : ℕ) (k : Known) (open_ifs : ℕ) (c : Stmt) : Type 0 where
  pub fits : stmt_fits (class_rows t) k c ≡ true
  pub depth : depth_of c + open_ifs ≤ 8
  pub plain : version ≡ 1 → is_plain c ≡ true
