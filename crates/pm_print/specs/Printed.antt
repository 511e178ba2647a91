-- The printed form of a program: its lines, with the gaps between the tokens of a line.
use Rattle.std.specs.Prelude.{ℕ, Bool, true, false, ◌||◌, if◌then◌else◌, List, [], ◌∷◌, ◌++◌, codes}
use Rattle.std.specs.Fmt.{signed_decimal}
use Rattle.std.specs.List.{flat_map}
use Rattle.pm_base.specs.declared.program.Program.{Program}
use Rattle.pm_rules.specs.Reading.{Scope, Table}
use Rattle.pm_rules.specs.Spelling.{program_says, program_scope, spell_said}
use Rattle.pm_rules.specs.declared.said.Said.{Said}
use Rattle.pm_tokens.specs.Tokens.{Tok, name, number, symbol}
use Rattle.pm_tokens.specs.declared.token.Symbol.{Symbol}
use Rattle.pm_tokens.specs.declared.token.Symbol.TheVariants as sym

-- the characters of each symbol
abbrev pub symbol_text : Symbol → List ℕ
symbol_text sym.Open = codes "("
symbol_text sym.Close = codes ")"
symbol_text sym.LeftBracket = codes "["
symbol_text sym.RightBracket = codes "]"
symbol_text sym.Dot = codes "."
symbol_text sym.Comma = codes ","
symbol_text sym.Assign = codes "="
symbol_text sym.Equal = codes "=="
symbol_text sym.Differ = codes "!="
symbol_text sym.Less = codes "<"
symbol_text sym.AtMost = codes "<="
symbol_text sym.Plus = codes "+"
symbol_text sym.Minus = codes "-"
symbol_text sym.Star = codes "*"
symbol_text sym.Slash = codes "/"
symbol_text sym.Percent = codes "%"

-- the text of a token: a name as it is, a number in decimal digits with its sign, a symbol's characters
abbrev pub token_text : Tok → List ℕ
token_text (name w) = w
token_text (number z) = signed_decimal z
token_text (symbol s) = symbol_text s

-- nothing stands behind an opening bracket or a dot
abbrev pub joins_right : Tok → Bool
joins_right (symbol sym.Open) = true
joins_right (symbol sym.LeftBracket) = true
joins_right (symbol sym.Dot) = true
joins_right _ = false

-- nothing stands before a closing bracket, the bracket of an index, a dot or a comma
abbrev pub joins_left : Tok → Bool
joins_left (symbol sym.Close) = true
joins_left (symbol sym.LeftBracket) = true
joins_left (symbol sym.RightBracket) = true
joins_left (symbol sym.Dot) = true
joins_left (symbol sym.Comma) = true
joins_left _ = false

-- one space between two tokens, but for those
abbrev pub gap : Tok → Tok → List ℕ
gap a b = if joins_right a || joins_left b then [] else codes " "

-- the text of the tokens that stand behind one
abbrev pub text_behind : Tok → List Tok → List ℕ
text_behind a [] = []
text_behind a (b ∷ ts) = gap a b ++ (token_text b ++ text_behind b ts)

-- the text of a line's tokens, with the gaps between them
abbrev pub line_text : List Tok → List ℕ
line_text [] = []
line_text (a ∷ ts) = token_text a ++ text_behind a ts

-- one line, and its line feed
abbrev pub said_text : Scope → Said → List ℕ
said_text sc s = line_text (spell_said sc s) ++ codes "\n"

-- the printed form of a program
unfoldable pub printed : Table → Program → List ℕ
printed t p = flat_map (said_text (program_scope t p)) (program_says p)
