-- The tokens of a line.
use Rattle.std.specs.Prelude.{ℕ, zero, suc, ◌+◌, ◌-◌, ◌*◌, ◌^◌, Bool, true, false, ◌&&◌, ◌||◌}
use Rattle.std.specs.Prelude.{◌==◌, if◌then◌else◌, nat_le, List, [], ◌∷◌, ◌++◌, take, slice_index}
use Rattle.std.specs.Prelude.{Option, Some, None, option_map, pos, neg_ℤ}
use Rattle.pm_base.specs.Names.{is_lower, is_word}
use Rattle.pm_tokens.specs.Tokens.{Tok, name, number, symbol}
use Rattle.pm_tokens.specs.Answers.{◌>>=◌}
use Rattle.pm_tokens.specs.declared.token.Symbol.{Symbol}
use Rattle.pm_tokens.specs.declared.token.Symbol.TheVariants as sym

-- a decimal digit
abbrev pub is_digit : ℕ → Bool
is_digit b = nat_le 48 b && nat_le b 57

-- a space or a tab, which separates tokens
abbrev pub is_blank : ℕ → Bool
is_blank b = b == 32 || b == 9

-- how many bytes at the front are of a name
abbrev pub word_len : List ℕ → ℕ
word_len [] = 0
word_len (b ∷ t) = if is_word b then word_len t + 1 else 0

-- how many bytes at the front are digits
abbrev pub digits_len : List ℕ → ℕ
digits_len [] = 0
digits_len (b ∷ t) = if is_digit b then digits_len t + 1 else 0

-- the number that digits write, after those that write n
abbrev pub value_after : ℕ → List ℕ → ℕ
value_after n [] = n
value_after n (c ∷ cs) = value_after (n * 10 + (c - 48)) cs

-- the number, where it is at most so much
unfoldable pub at_most : ℕ → List ℕ → Option ℕ
at_most most ds = if nat_le (value_after 0 ds) most then Some (value_after 0 ds) else None

-- a token and its length
abbrev pub Cut : Type 0
Cut = Tok × ℕ

-- a number's digits, with no byte of a name after them
unfoldable pub digits : ℕ → List ℕ → Option (ℕ × ℕ)
digits most text =
    let n = digits_len text in
    if n == word_len text then option_map (λ v. (v, n)) (at_most most (take n text)) else None

-- a number without a sign, up to the greatest of 64 bits
unfoldable pub positive : List ℕ → Option Cut
positive text = option_map (λ d. (number (pos d.0), d.1)) (digits (2 ^ 63 - 1) text)

-- a number behind its `-`, down to the least of 64 bits
unfoldable pub negative : List ℕ → Option Cut
negative text = option_map (λ d. (number (neg_ℤ (pos d.0)), d.1 + 1)) (digits (2 ^ 63) text)

-- a name of at most 32 bytes; a longer run is no token
unfoldable pub word : List ℕ → Option Cut
word text = let n = word_len text in if nat_le n 32 then Some (name (take n text), n) else None

-- a symbol that `=` may follow
abbrev pub pair : Bool → Option Symbol → Symbol → Option Cut
pair true s two = Some (symbol two, 2)
pair false None two = None
pair false (Some s) two = Some (symbol s, 1)

-- a symbol of one byte
abbrev pub one : Symbol → Option Cut
one s = Some (symbol s, 1)

-- the symbol that begins with this byte, by the byte after it
unfoldable pub mark : ℕ → ℕ → Option Cut
mark b next =
    if b == 40 then one sym.Open else if b == 41 then one sym.Close
    else if b == 91 then one sym.LeftBracket else if b == 93 then one sym.RightBracket
    else if b == 46 then one sym.Dot else if b == 44 then one sym.Comma
    else if b == 61 then pair (next == 61) (Some sym.Assign) sym.Equal
    else if b == 33 then pair (next == 61) None sym.Differ
    else if b == 60 then pair (next == 61) (Some sym.Less) sym.AtMost
    else if b == 43 then one sym.Plus else if b == 45 then one sym.Minus
    else if b == 42 then one sym.Star else if b == 47 then one sym.Slash
    else if b == 37 then one sym.Percent else None

-- the token at the front, which is not blank
unfoldable pub token : List ℕ → Option Cut
token [] = None
token (b ∷ t) =
    if is_lower b then word (b ∷ t)
    else if is_digit b then positive (b ∷ t)
    else if b == 45 && is_digit (slice_index t 0) then negative t
    else mark b (slice_index t 0)

-- the tokens, after so many bytes that are read already
abbrev pub lex_from : ℕ → List ℕ → Option (List Tok)
lex_from left [] = Some []
lex_from (suc left) (b ∷ t) = lex_from left t
lex_from zero (b ∷ t) =
    if is_blank b then lex_from zero t
    else (token (b ∷ t) >>= λ c. option_map (λ more. c.0 ∷ more) (lex_from (c.1 - 1) t))

-- more tokens behind those that are read
abbrev pub behind : List Tok → Option (List Tok) → Option (List Tok)
behind front more = option_map (λ ts. front ++ ts) more

-- the tokens of a text, by longest match; none where some characters are no token
unfoldable pub lex : List ℕ → Option (List Tok)
lex text = lex_from zero text
