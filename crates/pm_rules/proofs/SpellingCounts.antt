-- A line is spelled in as many tokens as are counted.
use Rattle.std.proofs.Common.{◌≡◌, refl, ap, arith, ℕ, List, [], ◌∷◌, ◌++◌, length, length-append}
use Rattle.pm_base.specs.Fits.{change_tokens, place_tokens, sense_tokens, tokens_of}
use Rattle.pm_base.specs.declared.program.Expr.{Expr}
use Rattle.pm_base.specs.declared.program.Expr.TheVariants.{Bin}
use Rattle.pm_base.specs.declared.program.Op.{Op}
use Rattle.pm_base.specs.declared.program.Place.{Place}
use Rattle.pm_base.specs.declared.program.Place.TheVariants.{Var, Member}
use Rattle.pm_base.specs.declared.program.Sense.{Sense}
use Rattle.pm_base.specs.declared.program.Sense.TheVariants as sense
use Rattle.pm_rules.specs.Reading.{Scope}
use Rattle.pm_rules.specs.Spelling.{op_token, spell, spell_change, spell_place, spell_sense}
use Rattle.pm_tokens.specs.Tokens.{Tok, symbol}
use Rattle.pm_tokens.specs.declared.token.Symbol.TheVariants as symbols
use Rattle.pm_rules.proofs.SpellingEquations.{spell-Num, spell-Now, spell-Me, spell-Reg, spell-Part, spell-Bin, tokens-Num, tokens-Now, tokens-Me, tokens-Reg, tokens-Part, tokens-Bin}
use Rattle.pm_rules.proofs.Variants.{every_expression}

abbrev IsCounted : Scope → Expr → Type 0
IsCounted sc e = length (spell sc e) ≡ tokens_of e

bin_counted : (sc : Scope) (o : Op) (a b : Expr) → IsCounted sc a → IsCounted sc b → IsCounted sc (Bin o a b)
bin_counted sc o a b ca cb = omega (
  arith,
  ca,
  cb,
  tokens-Bin o a b,
  ap (λ (ts : List Tok). length ts) (spell-Bin sc o a b),
  length-append (spell sc a) (op_token o ∷ (spell sc b ++ symbol symbols.Close ∷ [])),
  length-append (spell sc b) (symbol symbols.Close ∷ []),
)

pub expression_counted : (sc : Scope) (e : Expr) → length (spell sc e) ≡ tokens_of e
expression_counted sc = every_expression (IsCounted sc) (record {
  num = λ z. rw (spell-Num sc z, tokens-Num z) refl;
  now = rw (spell-Now sc, tokens-Now) refl;
  me = rw (spell-Me sc, tokens-Me) refl;
  reg = λ r. rw (spell-Reg sc r, tokens-Reg r) refl;
  part = λ k f. rw (spell-Part sc k f, tokens-Part k f) refl;
  bin = bin_counted sc;
})

pub place_counted : (sc : Scope) (p : Place) → length (spell_place sc p) ≡ place_tokens p
place_counted sc (Var v) = refl
place_counted sc (Member class at) =
    omega (arith, expression_counted sc at, length-append (spell sc at) (symbol symbols.RightBracket ∷ []))

pub sense_counted : (sc : Scope) (w : List ℕ) (s : Sense) → length (spell_sense sc w s) ≡ sense_tokens s
sense_counted sc w (sense.Read p) = omega (arith, place_counted sc p)
sense_counted sc w (sense.Scan class x0 x1 y0 y1) = omega (
  arith,
  expression_counted sc x0,
  expression_counted sc x1,
  expression_counted sc y0,
  expression_counted sc y1,
  length-append (spell sc x0) (spell sc x1 ++ (spell sc y0 ++ spell sc y1)),
  length-append (spell sc x1) (spell sc y0 ++ spell sc y1),
  length-append (spell sc y0) (spell sc y1),
)

pub change_counted : (sc : Scope) (w : List ℕ) (p : Place) (x y : Expr) →
    length (spell_change sc w p x y) ≡ change_tokens p x y
change_counted sc w p x y = omega (
  arith,
  place_counted sc p,
  expression_counted sc x,
  expression_counted sc y,
  length-append (spell_place sc p) (symbol symbols.Assign ∷ (spell sc x ++ (symbol symbols.Comma ∷ spell sc y))),
  length-append (spell sc x) (symbol symbols.Comma ∷ spell sc y),
)
