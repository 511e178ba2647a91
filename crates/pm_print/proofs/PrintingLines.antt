-- The printed text of a program, line by line.
use Rattle.std.proofs.Common.{◌≡◌, refl, ap, ◌∙◌, arith, ℕ, zero, suc, ◌-◌, List, [], ◌∷◌, ◌++◌, length, map, Bool, true, false, not, ◌&&◌, ◌||◌, ℤ, pos, negsuc, get_or, take_all, append_assoc}
use Rattle.std.specs.Prelude.{◌==◌, codes, FitsSigned, if◌then◌else◌}
use Rattle.std.specs.Int.{w64}
use Rattle.std.specs.List.{list_all, AllByRecursion, flat_map}
use Rattle.std.specs.Fmt.{decimal, signed_decimal}
use Rattle.std.proofs.lemmas.Bool.Decides.{nat_tests}
use Rattle.std.proofs.lemmas.List.Folds.{list_all-append}
use Rattle.pm_base.specs.Names.{is_word, is_name}
use Rattle.pm_base.specs.declared.program.Program.{Program}
use Rattle.pm_tokens.specs.Lexing.{is_digit}
use Rattle.pm_tokens.specs.Lines.{lines_of, IsOneLine, without_return, code_len, code}
use Rattle.pm_print.specs.Printing.{IsWritable, AreWritable}
use Rattle.pm_rules.specs.Reading.{Scope, Table}
use Rattle.pm_rules.specs.Spelling.{spell_said, program_says, program_scope}
use Rattle.pm_print.specs.Printed.{symbol_text, token_text, joins_right, joins_left, gap, text_behind, line_text, said_text, printed}
use Rattle.pm_tokens.specs.Tokens.{Tok, name, number, symbol}
use Rattle.pm_rules.specs.declared.said.Said.{Said}
use Rattle.pm_tokens.specs.declared.token.Symbol.{Symbol}
use Rattle.pm_tokens.specs.declared.token.Symbol.TheVariants as sym
use Rattle.pm_print.proofs.PrintingDigits.{decimal_writes}

-- neither a line feed nor a carriage return nor the mark of a comment
abbrev is_ink : ℕ → Bool
is_ink b = not (b == 10) && (not (b == 13) && not (b == 35))

abbrev IsInk : List ℕ → Type 0
IsInk l = list_all is_ink l ≡ true

word_ink : (b : ℕ) → is_word b ≡ true → is_ink b ≡ true
word_ink b e = grind (arith, nat_tests)

digit_ink : (b : ℕ) → is_digit b ≡ true → is_ink b ≡ true
digit_ink b e = grind (arith, nat_tests)

all_ink : (p : ℕ → Bool) → ((b : ℕ) → p b ≡ true → is_ink b ≡ true) → (l : List ℕ) → list_all p l ≡ true → IsInk l
all_ink p ink [] h = refl
all_ink p ink (b ∷ l) h =
    let here : p b ≡ true = grind (arith, nat_tests) in
    let more : list_all p l ≡ true = grind (arith, nat_tests) in
    rw (ink b here, all_ink p ink l more) refl

name_ink : (w : List ℕ) → is_name w ≡ true → IsInk w
unfolding is_name
name_ink w e = all_ink is_word word_ink w (grind (arith, nat_tests))

number_ink : (z : ℤ) → FitsSigned w64 z → IsInk (signed_decimal z)
number_ink (pos n) h = all_ink is_digit digit_ink (decimal n) (decimal_writes n (omega (arith, h))).digits
number_ink (negsuc n) h =
    all_ink is_digit digit_ink (decimal (suc n)) (decimal_writes (suc n) (omega (arith, h))).digits

symbol_ink : (s : Symbol) → IsInk (symbol_text s)
symbol_ink sym.Open = refl
symbol_ink sym.Close = refl
symbol_ink sym.LeftBracket = refl
symbol_ink sym.RightBracket = refl
symbol_ink sym.Dot = refl
symbol_ink sym.Comma = refl
symbol_ink sym.Assign = refl
symbol_ink sym.Equal = refl
symbol_ink sym.Differ = refl
symbol_ink sym.Less = refl
symbol_ink sym.AtMost = refl
symbol_ink sym.Plus = refl
symbol_ink sym.Minus = refl
symbol_ink sym.Star = refl
symbol_ink sym.Slash = refl
symbol_ink sym.Percent = refl

token_ink : (k : Tok) → IsWritable k → IsInk (token_text k)
token_ink (name w) h = name_ink w h
token_ink (number z) h = number_ink z h
token_ink (symbol s) h = symbol_ink s

both_ink : (a b : List ℕ) → IsInk a → IsInk b → IsInk (a ++ b)
both_ink a b h k = rw (list_all-append is_ink a b, h, k) refl

gap_ink : (joins : Bool) → IsInk (if joins then [] else codes " ")
gap_ink true = refl
gap_ink false = refl

behind_ink : (a : Tok) (ts : List Tok) → AreWritable ts → IsInk (text_behind a ts)
behind_ink a [] all = refl
behind_ink a (b ∷ ts) all =
    both_ink (gap a b) (token_text b ++ text_behind b ts) (gap_ink (joins_right a || joins_left b))
    (both_ink (token_text b) (text_behind b ts) (token_ink b all.0) (behind_ink b ts all.1))

line_ink : (ts : List Tok) → AreWritable ts → IsInk (line_text ts)
line_ink [] all = refl
line_ink (a ∷ ts) all = both_ink (token_text a) (text_behind a ts) (token_ink a all.0) (behind_ink a ts all.1)

ink_no_feed : (l : List ℕ) → IsInk l → IsOneLine l
ink_no_feed [] h = tt
ink_no_feed (b ∷ l) h =
    let here : (b == 10) ≡ false = grind (arith, nat_tests) in
    let more : list_all is_ink l ≡ true = grind (arith, nat_tests) in
    (here, ink_no_feed l more)

-- the printed text of tokens is one line
pub one_line-line_text : (ts : List Tok) → AreWritable ts → IsOneLine (line_text ts)
one_line-line_text ts all = ink_no_feed (line_text ts) (line_ink ts all)

ink_at : (l : List ℕ) (k : ℕ) → IsInk l → (get_or l k 0 == 13) ≡ false
ink_at [] k h = refl
ink_at (b ∷ l) zero h = grind (arith, nat_tests)
ink_at (b ∷ l) (suc k) h = ink_at l k (grind (arith, nat_tests))

ink_code_len : (l : List ℕ) → IsInk l → code_len l ≡ length l
ink_code_len [] h = refl
ink_code_len (b ∷ l) h =
    let here : (b == 35) ≡ false = grind (arith, nat_tests) in
    let more : list_all is_ink l ≡ true = grind (arith, nat_tests) in
    rw (here, ink_code_len l more) (omega arith)

ink_code : (l : List ℕ) → IsInk l → code l ≡ l
unfolding code without_return
ink_code l h = rw (ink_at l (length l - 1) h, ink_code_len l h) (take_all (length l) l (omega arith))

-- nothing of it is a comment
pub code-line_text : (ts : List Tok) → AreWritable ts → code (line_text ts) ≡ line_text ts
code-line_text ts all = ink_code (line_text ts) (line_ink ts all)

-- the first line ends at the first line feed
pub lines-append : (l t : List ℕ) → IsOneLine l → lines_of (l ++ 10 ∷ t) ≡ l ∷ lines_of t
unfolding lines_of
lines-append [] t h = refl
lines-append (b ∷ l) t h = rw (h.0, lines-append l t h.1) refl

-- each line of what is said is its text, and an empty line is left behind the last
pub lines-said : (sc : Scope) (ss : List Said) → AllByRecursion (λ (s : Said). AreWritable (spell_said sc s)) ss →
    lines_of (flat_map (said_text sc) ss) ≡ map (λ (s : Said). line_text (spell_said sc s)) ss ++ ([] ∷ [])
unfolding lines_of
lines-said sc [] all = refl
lines-said sc (s ∷ ss) all =
    ap lines_of (append_assoc (line_text (spell_said sc s)) (codes "\n") (flat_map (said_text sc) ss))
    ∙ (lines-append (line_text (spell_said sc s)) (flat_map (said_text sc) ss)
    (one_line-line_text (spell_said sc s) all.0)
    ∙ ap (λ (ls : List (List ℕ)). line_text (spell_said sc s) ∷ ls) (lines-said sc ss all.1))

pub lines-printed : (t : Table) (p : Program) →
    AllByRecursion (λ (s : Said). AreWritable (spell_said (program_scope t p) s)) (program_says p) →
    lines_of (printed t p) ≡ map (λ (s : Said). line_text (spell_said (program_scope t p) s)) (program_says p) ++
    ([] ∷ [])
unfolding printed
lines-printed t p all = lines-said (program_scope t p) (program_says p) all
