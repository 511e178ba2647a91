-- What is left over after a change.
use Rattle.std.proofs.Common.{◌≡◌, refl, arith, ◌<◌, List, [], ◌∷◌, length, Some, None}
use Rattle.pm_base.specs.declared.program.Expr.{Expr}
use Rattle.pm_base.specs.declared.program.Place.{Place}
use Rattle.pm_rules.specs.Reading.{Found, Scope, after, expr, is_assign, is_comma, place}
use Rattle.pm_rules.specs.Statements.{change, whole}
use Rattle.pm_tokens.specs.Tokens.{Tok}

whole-more : {A : Type 0} (a : A) (ts : List Tok) → 0 < length ts → whole a ts ≡ None
whole-more a [] more = absurd (omega arith)
whole-more a (t ∷ ts) more = refl

-- a change with tokens after it is none
pub change-more : (sc : Scope) (ts : List Tok) (at : Found Place) (rest : List Tok) (x : Found Expr) (second : List Tok) (y : Found Expr) →
    place sc ts ≡ Some at → after is_assign at.1 ≡ Some rest → expr sc rest ≡ Some x → after is_comma x.1 ≡ Some second →
    expr sc second ≡ Some y → 0 < length y.1 → change sc ts ≡ None
unfolding change
change-more sc ts at rest x second y p a e c f more = rw (p, a, e, c, f) (whole-more _ y.1 more)
