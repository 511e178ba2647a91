-- The rows of a printed text: a line for each that the program's lines say, numbered from 1.
use Rattle.std.proofs.Common.{◌≡◌, refl, ap, ◌∙◌, arith, ℕ, ◌+◌, ◌≤◌, ◌<◌, List, [], ◌∷◌, ◌++◌, length, map, Option, Some}
use Rattle.std.specs.List.{AllByRecursion}
use Rattle.pm_base.specs.declared.program.Program.{Program}
use Rattle.pm_rules.specs.Grammar.{IsShort, Row, or_none, rows_from, with_row}
use Rattle.pm_tokens.specs.Lexing.{lex}
use Rattle.pm_tokens.specs.Lines.{code, lines_of}
use Rattle.pm_print.specs.Printing.{AreWritable, AreWritten, IsWritten, numbered}
use Rattle.pm_rules.specs.Reading.{Scope, Table}
use Rattle.pm_rules.specs.Spelling.{program_says, program_scope, spell_said}
use Rattle.pm_print.specs.Printed.{line_text, printed}
use Rattle.pm_tokens.specs.Tokens.{Tok}
use Rattle.pm_rules.specs.declared.said.Said.{Said}
use Rattle.pm_print.proofs.PrintingLines.{code-line_text, lines-printed}
use Rattle.pm_print.proofs.PrintingTokens.{lex-line_text}

row_written : (n : ℕ) (ts : List Tok) (rows : List Row) → 0 < length ts →
    with_row n ts (Some rows) ≡ Some (record { number = n; tokens = ts } ∷ rows)
row_written n [] rows some = absurd (omega arith)
row_written n (k ∷ ks) rows some = refl

line_read : (ts : List Tok) → AreWritable ts → lex (code (line_text ts)) ≡ Some ts
line_read ts all = ap lex (code-line_text ts all) ∙ lex-line_text ts all

no_row : (n : ℕ) → rows_from n ([] ∷ []) ≡ Some []
no_row n = rw (line_read [] tt) refl

-- the rows of printed lines, and of the empty line behind them
rows-lines : (n : ℕ) (lines : List (List Tok)) → AllByRecursion IsWritten lines →
    rows_from n (map line_text lines ++ ([] ∷ [])) ≡ Some (numbered n lines)
rows-lines n [] all = no_row n
rows-lines n (ts ∷ lines) all =
    ap (λ (toks : Option (List Tok)). or_none n toks (rows_from (n + 1) (map line_text lines ++ ([] ∷ []))))
    (line_read ts all.0.tokens)
    ∙ (ap (λ (rows : Option (List Row)). with_row n ts rows) (rows-lines (n + 1) lines all.1)
    ∙ row_written n ts (numbered (n + 1) lines) all.0.some)

said_lines : (sc : Scope) (ss : List Said) → AllByRecursion (λ (s : Said). IsWritten (spell_said sc s)) ss →
    AllByRecursion IsWritten (map (spell_said sc) ss)
said_lines sc [] all = tt
said_lines sc (s ∷ ss) all = (all.0, said_lines sc ss all.1)

said_tokens : (sc : Scope) (ss : List Said) → AllByRecursion (λ (s : Said). IsWritten (spell_said sc s)) ss →
    AllByRecursion (λ (s : Said). AreWritable (spell_said sc s)) ss
said_tokens sc [] all = tt
said_tokens sc (s ∷ ss) all = (all.0.tokens, said_tokens sc ss all.1)

texts_twice : (sc : Scope) (ss : List Said) →
    map (λ (s : Said). line_text (spell_said sc s)) ss ≡ map line_text (map (spell_said sc) ss)
texts_twice sc [] = refl
texts_twice sc (s ∷ ss) = ap (λ (ls : List (List ℕ)). line_text (spell_said sc s) ∷ ls) (texts_twice sc ss)

pub rows-printed : (t : Table) (p : Program) → AreWritten t p →
    rows_from 1 (lines_of (printed t p)) ≡ Some (numbered 1 (map (spell_said (program_scope t p)) (program_says p)))
rows-printed t p all =
    ap (λ (ls : List (List ℕ)). rows_from 1 ls)
    (lines-printed t p (said_tokens (program_scope t p) (program_says p) all)
    ∙ ap (λ (ls : List (List ℕ)). ls ++ ([] ∷ [])) (texts_twice (program_scope t p) (program_says p)))
    ∙ rows-lines 1 (map (spell_said (program_scope t p)) (program_says p))
    (said_lines (program_scope t p) (program_says p) all)

pub numbered-tokens : (n : ℕ) (lines : List (List Tok)) → map (λ (r : Row). r.tokens) (numbered n lines) ≡ lines
numbered-tokens n [] = refl
numbered-tokens n (ts ∷ lines) = ap (λ (more : List (List Tok)). ts ∷ more) (numbered-tokens (n + 1) lines)

-- at most 200 lines of at most 64 tokens are short
pub numbered-short : (n : ℕ) (lines : List (List Tok)) → n + length lines ≤ 201 →
    AllByRecursion (λ (ts : List Tok). length ts ≤ 64) lines → AllByRecursion IsShort (numbered n lines)
numbered-short n [] few short = tt
numbered-short n (ts ∷ lines) few short = (
  record { number = omega (arith, few); tokens = short.0 },
  numbered-short (n + 1) lines (omega (arith, few)) short.1,
)

-- each line of the printed form is its text
pub lines-written : (t : Table) (p : Program) → AreWritten t p →
    lines_of (printed t p) ≡ map (λ (s : Said). line_text (spell_said (program_scope t p) s)) (program_says p) ++
    ([] ∷ [])
lines-written t p all = lines-printed t p (said_tokens (program_scope t p) (program_says p) all)
