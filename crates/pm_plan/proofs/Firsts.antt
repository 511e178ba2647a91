-- One more name.
use Rattle.std.proofs.Common.{◌≡◌, refl, ap, sym, ◌∙◌, arith, ℕ, ◌+◌, ◌<◌, Bool, true, false, List, [], ◌∷◌, ◌++◌, length, take, Option, Some, None, length-take-le}
use Rattle.std.specs.Prelude.{if◌then◌else◌, is_none, is_some, not}
use Rattle.std.specs.Str.{bytes_eq}
use Rattle.std.proofs.lemmas.List.{take_more}
use Rattle.pm_plan.specs.Numbers.{number_of, first_from, or_here, name_at}

chosen : (b : Bool) (k : ℕ) (rest : Option ℕ) (here : Bool) (i : ℕ) →
    (if b then Some k else or_here rest here i) ≡ or_here (if b then Some k else rest) here i
chosen true k rest here i = refl
chosen false k rest here i = refl

first_from-push : (w : List ℕ) (i : ℕ) (ns : List (List ℕ)) (n : List ℕ) (at : ℕ) → at ≡ i + length ns →
    first_from i (ns ++ n ∷ []) w ≡ or_here (first_from i ns w) (bytes_eq w n) at
first_from-push w i [] n at e = ap (λ (k : ℕ). if bytes_eq w n then Some k else None) (omega (arith, e))
first_from-push w i (m ∷ ns) n at e =
    ap (λ (o : Option ℕ). if bytes_eq w m then Some i else o) (first_from-push w (i + 1) ns n at (omega (arith, e)))
    ∙ chosen (bytes_eq w m) i (first_from (i + 1) ns w) (bytes_eq w n) at

pub number_of-more : (w : List ℕ) (names : List (List ℕ)) (i : ℕ) → i < length names →
    number_of (take (i + 1) names) w ≡ or_here (number_of (take i names) w) (bytes_eq w (name_at names i)) i
unfolding number_of
number_of-more w names i h = rw (take_more names i []) (first_from-push w 0 (take i names) (name_at names i) i (omega (arith, length-take-le i names)))

pub some_from_none : (o : Option ℕ) (b : Bool) → is_none o ≡ not b → is_some o ≡ b
some_from_none None true e = sym e
some_from_none None false e = cc
some_from_none (Some k) true e = cc
some_from_none (Some k) false e = cc

pub none_from_some : (o : Option ℕ) (b : Bool) → is_some o ≡ not b → b ≡ is_none o
none_from_some None true e = refl
none_from_some None false e = cc
none_from_some (Some k) true e = cc
none_from_some (Some k) false e = refl
