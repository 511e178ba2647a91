-- The text of a line's tokens is cut into these tokens.
use Rattle.std.proofs.Common.{◌≡◌, refl, ap, ◌∙◌, arith, ℕ, suc, ◌+◌, ◌-◌, ◌^◌, ◌≤◌, nat_le, List, [], ◌∷◌, ◌++◌, length, Bool, true, false, ◌||◌, ℤ, pos, negsuc, Option, Some, option_map, slice_index, take_at, drop_at}
use Rattle.std.specs.Prelude.{◌==◌, codes, FitsSigned, if◌then◌else◌}
use Rattle.std.specs.Int.{w64}
use Rattle.std.specs.List.{list_all, AllByRecursion}
use Rattle.std.specs.Fmt.{decimal}
use Rattle.std.proofs.lemmas.Bool.Decides.{nat_tests}
use Rattle.pm_base.specs.Names.{is_lower, is_word, is_name}
use Rattle.pm_tokens.specs.Lexing.{is_digit, is_blank, word, positive, negative, mark, token, lex_from, lex}
use Rattle.pm_print.specs.Printing.{IsWritable}
use Rattle.pm_print.specs.Printed.{token_text, joins_right, joins_left, gap, text_behind, line_text}
use Rattle.pm_tokens.specs.Tokens.{Tok, name, number, symbol}
use Rattle.pm_tokens.specs.declared.token.Symbol.{Symbol}
use Rattle.pm_tokens.specs.declared.token.Symbol.TheVariants as sym
use Rattle.pm_tokens.proofs.LexingLaws.{lex_from-drop}
use Rattle.pm_print.proofs.PrintingDigits.{Writes, decimal_writes, digits_read, word_len-append, digit_not_lower, not_word_not_digit}

-- neither a byte of a name nor `=` stands at the front
pub record Ends (rest : List ℕ) : Type 0 where
  pub word : is_word (slice_index rest 0) ≡ false
  pub equal : (slice_index rest 0 == 61) ≡ false

-- a token that goes on with nothing, or one before a text that it doesn't go on with
abbrev pub Stops : Tok → List ℕ → Type 0
Stops k rest = joins_right k ≡ false → Ends rest

-- the token stands at the front of a text
pub record IsRead (k : Tok) (rest : List ℕ) : Type 0 where
  pub token : token (token_text k ++ rest) ≡ Some (k, length (token_text k))
  pub blank : is_blank (slice_index (token_text k ++ rest) 0) ≡ false
  pub some : 1 ≤ length (token_text k)

symbol_read : (s : Symbol) (rest : List ℕ) → Stops (symbol s) rest → IsRead (symbol s) rest
unfolding token mark
symbol_read sym.Open rest e = record { token = refl; blank = refl; some = omega arith }
symbol_read sym.Close rest e = record { token = refl; blank = refl; some = omega arith }
symbol_read sym.LeftBracket rest e = record { token = refl; blank = refl; some = omega arith }
symbol_read sym.RightBracket rest e = record { token = refl; blank = refl; some = omega arith }
symbol_read sym.Dot rest e = record { token = refl; blank = refl; some = omega arith }
symbol_read sym.Comma rest e = record { token = refl; blank = refl; some = omega arith }
symbol_read sym.Assign rest e = record { token = rw (e refl).equal refl; blank = refl; some = omega arith }
symbol_read sym.Equal rest e = record { token = refl; blank = refl; some = omega arith }
symbol_read sym.Differ rest e = record { token = refl; blank = refl; some = omega arith }
symbol_read sym.Less rest e = record { token = rw (e refl).equal refl; blank = refl; some = omega arith }
symbol_read sym.AtMost rest e = record { token = refl; blank = refl; some = omega arith }
symbol_read sym.Plus rest e = record { token = refl; blank = refl; some = omega arith }
symbol_read sym.Minus rest e =
    record { token = rw (not_word_not_digit _ (e refl).word) refl; blank = refl; some = omega arith }
symbol_read sym.Star rest e = record { token = refl; blank = refl; some = omega arith }
symbol_read sym.Slash rest e = record { token = refl; blank = refl; some = omega arith }
symbol_read sym.Percent rest e = record { token = refl; blank = refl; some = omega arith }

lower_not_blank : (b : ℕ) → is_lower b ≡ true → is_blank b ≡ false
lower_not_blank b e = grind (arith, nat_tests)

digit_not_blank : (b : ℕ) → is_digit b ≡ true → is_blank b ≡ false
digit_not_blank b e = grind (arith, nat_tests)

word_read : (w rest : List ℕ) → list_all is_word w ≡ true → nat_le (length w) 32 ≡ true →
    is_word (slice_index rest 0) ≡ false →
    word (w ++ rest) ≡ Some (name w, length w)
unfolding word
word_read w rest all short e = rw (word_len-append w rest all e, short, take_at w rest (length w) refl) refl

name_read : (w rest : List ℕ) → is_name w ≡ true → Ends rest → IsRead (name w) rest
unfolding token is_name
name_read [] rest h e = absurd (grind (arith, nat_tests))
name_read (b ∷ w) rest h e =
    let low : is_lower b ≡ true = grind (arith, nat_tests) in
    let all : list_all is_word (b ∷ w) ≡ true = grind (arith, nat_tests) in
    let short : nat_le (length (b ∷ w)) 32 ≡ true = grind (arith, nat_tests) in
    let read = word_read (b ∷ w) rest all short e.word in
    record { token = rw low read; blank = lower_not_blank b low; some = omega arith }

positive_read : (n : ℕ) (ds rest : List ℕ) → Writes n ds → n ≤ 2 ^ 63 - 1 → is_word (slice_index rest 0) ≡ false →
    positive (ds ++ rest) ≡ Some (number (pos n), length ds)
unfolding positive
positive_read n ds rest w h e = rw (digits_read (2 ^ 63 - 1) n ds rest w h e) refl

negative_read : (n : ℕ) (ds rest : List ℕ) → Writes (suc n) ds → suc n ≤ 2 ^ 63 → is_word (slice_index rest 0) ≡ false →
    negative (ds ++ rest) ≡ Some (number (negsuc n), length ds + 1)
unfolding negative
negative_read n ds rest w h e = rw (digits_read (2 ^ 63) (suc n) ds rest w h e) refl

first_digit : (d : ℕ) (ds : List ℕ) → list_all is_digit (d ∷ ds) ≡ true → is_digit d ≡ true
first_digit d ds h = grind (arith, nat_tests)

pos_read : (n : ℕ) (ds rest : List ℕ) → Writes n ds → n ≤ 2 ^ 63 - 1 → is_word (slice_index rest 0) ≡ false →
    (token (ds ++ rest) ≡ Some (number (pos n), length ds)) ×
    ((is_blank (slice_index (ds ++ rest) 0) ≡ false) × (1 ≤ length ds))
unfolding token
pos_read n [] rest w h e = absurd (omega (arith, w.some))
pos_read n (d ∷ ds) rest w h e =
    let digit = first_digit d ds w.digits in
    (rw (digit_not_lower d digit, digit) (positive_read n (d ∷ ds) rest w h e), (digit_not_blank d digit, omega arith))

neg_read : (n : ℕ) (ds rest : List ℕ) → Writes (suc n) ds → suc n ≤ 2 ^ 63 → is_word (slice_index rest 0) ≡ false →
    token (45 ∷ (ds ++ rest)) ≡ Some (number (negsuc n), length (45 ∷ ds))
unfolding token
neg_read n [] rest w h e = absurd (omega (arith, w.some))
neg_read n (d ∷ ds) rest w h e =
    let digit = first_digit d ds w.digits in
    let more : length (d ∷ ds) + 1 ≡ length (45 ∷ (d ∷ ds)) = omega arith in
    rw digit (negative_read n (d ∷ ds) rest w h e ∙ ap (λ (k : ℕ). Some (number (negsuc n), k)) more)

number_read : (z : ℤ) (rest : List ℕ) → FitsSigned w64 z → Ends rest → IsRead (number z) rest
number_read (pos n) rest h e =
    let read = pos_read n (decimal n) rest (decimal_writes n (omega (arith, h))) (omega (arith, h)) e.word in
    record { token = read.0; blank = read.1.0; some = read.1.1 }
number_read (negsuc n) rest h e = record {
  token = neg_read n (decimal (suc n)) rest (decimal_writes (suc n) (omega (arith, h))) (omega (arith, h)) e.word;
  blank = refl;
  some = omega arith;
}

-- a token before a text that it doesn't go on with is read as that token
pub token_read : (k : Tok) (rest : List ℕ) → IsWritable k → Stops k rest → IsRead k rest
token_read (name w) rest p e = name_read w rest p (e refl)
token_read (number z) rest p e = number_read z rest p (e refl)
token_read (symbol s) rest p e = symbol_read s rest e

-- one token less
lexed_one : (k : Tok) (text rest : List ℕ) → token (text ++ rest) ≡ Some (k, length text) →
    is_blank (slice_index (text ++ rest) 0) ≡ false → 1 ≤ length text →
    lex_from 0 (text ++ rest) ≡ option_map (λ (ts : List Tok). k ∷ ts) (lex_from 0 rest)
lexed_one k [] rest e b some = absurd (omega arith)
lexed_one k (c ∷ t) rest e b some =
    let less : length (c ∷ t) - 1 ≡ length t = omega arith in
    rw (b, e, less) (ap (λ (m : Option (List Tok)). option_map (λ (ts : List Tok). k ∷ ts) m)
    (lex_from-drop (length t) (t ++ rest)
    ∙ ap (λ (r : List ℕ). lex_from 0 r) (drop_at t rest (length t) refl)))

lexed_token : (k : Tok) (rest : List ℕ) → IsWritable k → Stops k rest →
    lex_from 0 (token_text k ++ rest) ≡ option_map (λ (ts : List Tok). k ∷ ts) (lex_from 0 rest)
lexed_token k rest p e =
    let read = token_read k rest p e in lexed_one k (token_text k) rest read.token read.blank read.some

gap_at : (joins : Bool) (t : List ℕ) → lex_from 0 ((if joins then [] else codes " ") ++ t) ≡ lex_from 0 t
gap_at true t = refl
gap_at false t = refl

gap_passed : (a b : Tok) (t : List ℕ) → lex_from 0 (gap a b ++ t) ≡ lex_from 0 t
gap_passed a b t = gap_at (joins_right a || joins_left b) t

-- what stands behind a token begins with a blank, or with a symbol that joins it
ends_before : (c : Tok) (t : List ℕ) → Ends ((if joins_left c then [] else codes " ") ++ (token_text c ++ t))
ends_before (name w) t = record { word = refl; equal = refl }
ends_before (number z) t = record { word = refl; equal = refl }
ends_before (symbol sym.Open) t = record { word = refl; equal = refl }
ends_before (symbol sym.Close) t = record { word = refl; equal = refl }
ends_before (symbol sym.LeftBracket) t = record { word = refl; equal = refl }
ends_before (symbol sym.RightBracket) t = record { word = refl; equal = refl }
ends_before (symbol sym.Dot) t = record { word = refl; equal = refl }
ends_before (symbol sym.Comma) t = record { word = refl; equal = refl }
ends_before (symbol sym.Assign) t = record { word = refl; equal = refl }
ends_before (symbol sym.Equal) t = record { word = refl; equal = refl }
ends_before (symbol sym.Differ) t = record { word = refl; equal = refl }
ends_before (symbol sym.Less) t = record { word = refl; equal = refl }
ends_before (symbol sym.AtMost) t = record { word = refl; equal = refl }
ends_before (symbol sym.Plus) t = record { word = refl; equal = refl }
ends_before (symbol sym.Minus) t = record { word = refl; equal = refl }
ends_before (symbol sym.Star) t = record { word = refl; equal = refl }
ends_before (symbol sym.Slash) t = record { word = refl; equal = refl }
ends_before (symbol sym.Percent) t = record { word = refl; equal = refl }

ends_behind : (a : Tok) (ts : List Tok) → Stops a (text_behind a ts)
ends_behind a [] e = record { word = refl; equal = refl }
ends_behind a (c ∷ ts) e = rw e (ends_before c (text_behind c ts))

-- the text behind a token is cut into the tokens behind it
behind_read : (a : Tok) (ts : List Tok) → AllByRecursion IsWritable ts → lex_from 0 (text_behind a ts) ≡ Some ts
behind_read a [] all = refl
behind_read a (c ∷ ts) all =
    gap_passed a c (token_text c ++ text_behind c ts) ∙ (lexed_token c (text_behind c ts) all.0 (ends_behind c ts)
    ∙ ap (λ (m : Option (List Tok)). option_map (λ (more : List Tok). c ∷ more) m) (behind_read c ts all.1))

pub lex-line_text : (ts : List Tok) → AllByRecursion IsWritable ts → lex (line_text ts) ≡ Some ts
unfolding lex
lex-line_text [] all = refl
lex-line_text (a ∷ ts) all =
    lexed_token a (text_behind a ts) all.0 (ends_behind a ts)
    ∙ ap (λ (m : Option (List Tok)). option_map (λ (more : List Tok). a ∷ more) m) (behind_read a ts all.1)
