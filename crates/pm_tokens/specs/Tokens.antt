-- Tokens without the text that they lie in.
use Rattle.std.specs.Prelude.{ℕ, List, ℤ, map}
use Rattle.pm_tokens.specs.declared.token.Symbol.{Symbol}
use Rattle.pm_tokens.specs.declared.token.Token.{Token}
use Rattle.pm_tokens.specs.declared.token.Token.TheVariants as token

-- a token: a name's bytes, a number, or a symbol
pub data Tok : Type 0 where
  name : List ℕ → Tok
  number : ℤ → Tok
  symbol : Symbol → Tok

-- a token of the code, without the text that its name borrows
abbrev pub tok : Token → Tok
tok (token.Name s) = name s.now
tok (token.Number z) = number z
tok (token.Symbol s) = symbol s

-- so of a line's tokens
abbrev pub toks : List Token → List Tok
toks ts = map tok ts
