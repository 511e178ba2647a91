-- The lines of a text, as rows.
use Rattle.std.proofs.Common.{◌≡◌, ◌∙◌, ap, refl, sym, subst, arith, ℕ, ◌+◌, ◌≤◌, Bool, true, false, List, [], ◌∷◌, Option, Some, None, length, nat_lt, Result, Ok, Err}
use Rattle.std.specs.List.{AllByRecursion}
use Rattle.std.specs.Prelude.{not, ◌&&◌, ◌||◌, if◌then◌else◌}
use Rattle.std.proofs.lemmas.Bool.Decides.{nat_tests}
use Rattle.std.proofs.lemmas.Option.{same_Some}
use Rattle.pm_rules.specs.Grammar.{IsShort, Row, rows_from, with_row}
use Rattle.pm_tokens.specs.Lexing.{lex}
use Rattle.pm_tokens.specs.Lines.{code}
use Rattle.pm_rules.specs.Nesting.{AreRead, after_rows, all_said, are_taken, is_taken}
use Rattle.pm_rules.specs.Reading.{Table}
use Rattle.pm_rules.specs.Rules.{after_line, after_lines, after_read, after_tokens, fault_of, first_of, go_on, is_one_too_many, is_out_of_order, is_twice, is_unmatched, or_draft, scope_of, with_said}
use Rattle.pm_rules.specs.Statements.{Read, statement}
use Rattle.pm_tokens.specs.Tokens.{Tok}
use Rattle.pm_rules.specs.declared.draft.Draft.{Draft}
use Rattle.pm_rules.specs.declared.fault.RuleFault.{RuleFault}
use Rattle.pm_rules.specs.declared.fault.RuleFault.TheVariants as fault
use Rattle.pm_rules.specs.declared.said.Said.{Said}
use Rattle.pm_rules.proofs.BackwardLaws.{both}

-- what goes on to an end had no fault
pub gone_on : {A B : Type 0} (f : A → Result B RuleFault) (o : Result A RuleFault) (b : B) → go_on f o ≡ Ok b → (a : A) × (o ≡ Ok a) × (f a ≡ Ok b)
gone_on f (Ok a) b e = (a, refl, e)
gone_on f (Err x) b e = cc

below : (r n : ℕ) → nat_lt r n ≡ false → n ≤ r
below r n e = grind (arith, nat_tests)

not_above : (r n : ℕ) → r ≤ n → nat_lt n r ≡ false
not_above r n h = grind (arith, nat_tests)

within : (n : ℕ) (ks : List Tok) → (nat_lt 200 n || nat_lt 64 (length ks)) ≡ false → IsShort (record { number = n; tokens = ks })
within n ks e = let parts = neither (nat_lt 200 n) (nat_lt 64 (length ks)) e in record { number = below 200 n parts.0; tokens = below 64 (length ks) parts.1 }
  where
    neither : (x y : Bool) → (x || y) ≡ false → (x ≡ false) × (y ≡ false)
    neither false false e = (refl, refl)
    neither false true e = cc
    neither true y e = cc

short_tests : (r : Row) → IsShort r → (nat_lt 200 r.number || nat_lt 64 (length r.tokens)) ≡ false
short_tests r s = rw (not_above r.number 200 s.number, not_above (length r.tokens) 64 s.tokens) refl

-- rows behind a first one
pub rows_split : (n : ℕ) (k : Tok) (ks : List Tok) (more : Option (List Row)) (rows : List Row) → with_row n (k ∷ ks) more ≡ Some rows →
    (rs : List Row) × (more ≡ Some rs) × (rows ≡ record { number = n; tokens = k ∷ ks } ∷ rs)
rows_split n k ks None rows e = cc
rows_split n k ks (Some rs) rows e = (rs, refl, sym (same_Some (record { number = n; tokens = k ∷ ks } ∷ rs) rows e))

-- a line and those after it go as their rows go
abbrev GoAsRows : Table → ℕ → ℕ → List (List ℕ) → Type 0
GoAsRows t version n lines =
    (rows : List Row) (d : Draft) → rows_from n lines ≡ Some rows → AllByRecursion IsShort rows → after_lines t version n lines d ≡ after_rows t version rows d

line_goes : (t : Table) (version n : ℕ) (l : List ℕ) (ls : List (List ℕ)) (toks : Option (List Tok)) → lex (code l) ≡ toks → GoAsRows t version (n + 1) ls →
    GoAsRows t version n (l ∷ ls)
unfolding after_lines after_line
line_goes t version n l ls None e more rows d is short = absurd_here (rw e at is)
  where
    absurd_here : None ≡ Some rows → after_lines t version n (l ∷ ls) d ≡ after_rows t version rows d
    absurd_here is = cc
line_goes t version n l ls (Some []) e more rows d is short = rw e (more rows d (rw e at is) short)
line_goes t version n l ls (Some (k ∷ ks)) e more rows d is short =
    let split = rows_split n k ks (rows_from (n + 1) ls) rows (rw e at is) in
    let all : AllByRecursion IsShort (record { number = n; tokens = k ∷ ks } ∷ split.0) = subst (λ (rs : List Row). AllByRecursion IsShort rs) split.2 short in
    rw (e, split.2, short_tests (record { number = n; tokens = k ∷ ks }) all.0)
    (rest (after_read n (statement (scope_of t d) version (k ∷ ks)) d) split.0 (λ (c : Draft). more split.0 c split.1 all.1))
  where
    rest : (o : Result Draft RuleFault) (rs : List Row) → ((c : Draft) → after_lines t version (n + 1) ls c ≡ after_rows t version rs c) →
        go_on (after_lines t version (n + 1) ls) o ≡ go_on (after_rows t version rs) o
    rest (Ok c) rs same = same c
    rest (Err x) rs same = refl

pub lines_go_as_rows : (t : Table) (version : ℕ) (lines : List (List ℕ)) (n : ℕ) → GoAsRows t version n lines
unfolding after_lines
lines_go_as_rows t version [] n rows d is short = rw (← same_Some [] rows is) refl
lines_go_as_rows t version (l ∷ ls) n rows d is short = line_goes t version n l ls (lex (code l)) refl (lines_go_as_rows t version ls (n + 1)) rows d is short

-- a text without a fault has rows, all of them short
abbrev HasRows : Table → ℕ → ℕ → List (List ℕ) → Type 0
HasRows t version n lines = (d e : Draft) → after_lines t version n lines d ≡ Ok e →
    (rows : List Row) × (rows_from n lines ≡ Some rows) × AllByRecursion IsShort rows × (after_rows t version rows d ≡ Ok e)

never : (b : Bool) (x y : RuleFault) (e : Draft) → (if b then Err x else Err y) ≡ Ok e → ⊥
never true x y e is = cc
never false x y e is = cc

-- a line within its limits, whose statement passed
line_passed : (n : ℕ) (k : Tok) (ks : List Tok) (o : Result Draft RuleFault) (c : Draft) (b : Bool) → (nat_lt 200 n || nat_lt 64 (length (k ∷ ks))) ≡ b →
    (if b then Err (fault.TooLong n) else o) ≡ Ok c → IsShort (record { number = n; tokens = k ∷ ks }) × (o ≡ Ok c)
line_passed n k ks o c true test is = cc
line_passed n k ks o c false test is = (within n (k ∷ ks) test, is)

row_passed : (t : Table) (version : ℕ) (r : Row) (d c e : Draft) (rs : List Row) → after_read r.number (statement (scope_of t d) version r.tokens) d ≡ Ok c →
    after_rows t version rs c ≡ Ok e → after_rows t version (r ∷ rs) d ≡ Ok e
row_passed t version r d c e rs first more = ap (λ (o : Result Draft RuleFault). go_on (after_rows t version rs) o) first ∙ more

line_has : (t : Table) (version n : ℕ) (l : List ℕ) (ls : List (List ℕ)) (toks : Option (List Tok)) → lex (code l) ≡ toks → HasRows t version (n + 1) ls →
    HasRows t version n (l ∷ ls)
unfolding after_lines after_line
line_has t version n l ls None e more d end is =
    absurd (let passed = gone_on (after_lines t version (n + 1) ls) (after_tokens t version n None d) end (rw e at is) in
    never (nat_lt 200 n) (fault.TooLong n) (fault.Word n) passed.0 passed.1)
line_has t version n l ls (Some []) e more d end is = rw e (more d end (rw e at is))
line_has t version n l ls (Some (k ∷ ks)) e more d end is =
    let passed = gone_on (after_lines t version (n + 1) ls) (after_tokens t version n (Some (k ∷ ks)) d) end (rw e at is) in
    let here = line_passed n k ks (after_read n (statement (scope_of t d) version (k ∷ ks)) d) passed.0 (nat_lt 200 n || nat_lt 64 (length (k ∷ ks))) refl passed.1 in
    let rest = more passed.0 end passed.2 in (
      record { number = n; tokens = k ∷ ks } ∷ rest.0,
      rw (e, rest.1) refl,
      (here.0, rest.2),
      row_passed t version (record { number = n; tokens = k ∷ ks }) d passed.0 end rest.0 here.1 rest.3,
    )

pub has_rows : (t : Table) (version : ℕ) (lines : List (List ℕ)) (n : ℕ) → HasRows t version n lines
unfolding after_lines
has_rows t version [] n d e is = ([], refl, tt, is)
has_rows t version (l ∷ ls) n d e is = line_has t version n l ls (lex (code l)) refl (has_rows t version ls (n + 1)) d e is

-- where there is no fault, the line is taken and all its names are there
no_fault : (n : ℕ) (a b c e known : Bool) → first_of ((a, fault.Order n) ∷ (b, fault.Nesting n) ∷ (c, fault.TooLong n) ∷ (e, fault.Twice n) ∷ (not known, fault.Unknown n) ∷ []) ≡ None →
    ((not a && (not b && (not c && not e))) ≡ true) × (known ≡ true)
no_fault n false false false false true is = (refl, refl)
no_fault n false false false false false is = cc
no_fault n false false false true known is = cc
no_fault n false false true e known is = cc
no_fault n false true c e known is = cc
no_fault n true b c e known is = cc

none_of : (n : ℕ) (a b c e : Bool) → (not a && (not b && (not c && not e))) ≡ true →
    first_of ((a, fault.Order n) ∷ (b, fault.Nesting n) ∷ (c, fault.TooLong n) ∷ (e, fault.Twice n) ∷ (not true, fault.Unknown n) ∷ []) ≡ None
none_of n false false false false is = refl
none_of n false false false true is = cc
none_of n false false true e is = cc
none_of n false true c e is = cc
none_of n true b c e is = cc

pub fault_none : (n : ℕ) (d : Draft) (s : Said) (known : Bool) → fault_of n d (s, known) ≡ None → (is_taken d s ≡ true) × (known ≡ true)
unfolding fault_of
fault_none n d s known is = no_fault n (is_out_of_order d s) (is_unmatched d s) (is_one_too_many d s) (is_twice d s) known is

pub none_fault : (n : ℕ) (d : Draft) (s : Said) → is_taken d s ≡ true → fault_of n d (s, true) ≡ None
unfolding fault_of
none_fault n d s is = none_of n (is_out_of_order d s) (is_unmatched d s) (is_one_too_many d s) (is_twice d s) is

the_same : (d c : Draft) → Path (Result Draft RuleFault) (Ok d) (Ok c) → d ≡ c
the_same d c is = cc

or_passed : (o : Option RuleFault) (d c : Draft) → or_draft o d ≡ Ok c → (o ≡ None) × (d ≡ c)
or_passed None d c is = (refl, the_same d c is)
or_passed (Some f) d c is = cc

-- a statement that passed
pub read_passed : (n : ℕ) (r : Option Read) (d c : Draft) → after_read n r d ≡ Ok c → (s : Said) × (r ≡ Some (s, true)) × (is_taken d s ≡ true) × (with_said s d ≡ c)
read_passed n None d c is = cc
read_passed n (Some (s, known)) d c is =
    let passed = or_passed (fault_of n d (s, known)) (with_said s d) c is in
    let none = fault_none n d s known passed.0 in
    (s, ap (λ (k : Bool). Some (s, k)) none.1, none.0, passed.1)

-- rows that pass are read, and what they say is taken
pub rows_read : (t : Table) (version : ℕ) (rows : List Row) (d e : Draft) → after_rows t version rows d ≡ Ok e →
    (ss : List Said) × AreRead t version d rows ss × (are_taken d ss ≡ true) × (all_said ss d ≡ e)
rows_read t version [] d e is = ([], tt, refl, the_same d e is)
rows_read t version (r ∷ rs) d e is =
    let passed = gone_on (after_rows t version rs) (after_read r.number (statement (scope_of t d) version r.tokens) d) e is in
    let here = read_passed r.number (statement (scope_of t d) version r.tokens) d passed.0 passed.1 in
    let rest = rows_read t version rs (with_said here.0 d) e (ap (λ (c : Draft). after_rows t version rs c) here.3 ∙ passed.2) in
    (here.0 ∷ rest.0, (here.1, rest.1), rw (here.2, rest.2) refl, rest.3)

-- rows that are read and whose lines are taken pass
pub read_rows : (t : Table) (version : ℕ) (rows : List Row) (ss : List Said) (d : Draft) → AreRead t version d rows ss → are_taken d ss ≡ true →
    after_rows t version rows d ≡ Ok (all_said ss d)
read_rows t version [] [] d read taken = refl
read_rows t version (r ∷ rs) (s ∷ ss) d read taken =
    let parts = both (is_taken d s) (are_taken (with_said s d) ss) taken in
    row_passed t version r d (with_said s d) (all_said ss (with_said s d)) rs
    (rw (read.0, none_fault r.number d s parts.0) refl)
    (read_rows t version rs ss (with_said s d) read.1 parts.1)
read_rows t version [] (s ∷ ss) d read taken = absurd read
read_rows t version (r ∷ rs) [] d read taken = absurd read
