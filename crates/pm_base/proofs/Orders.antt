-- The orders of moments, lines and numbers.
use Rattle.std.proofs.Common.{◌≡◌, refl, zero, suc, Bool, true, false, List, [], ◌∷◌, ◌++◌, if◌then◌else◌, arith, sym, ◌∙◌, ap}
use Rattle.std.specs.List.{All}
use Rattle.std.proofs.lemmas.Bool.{false≢true}
use Rattle.std.proofs.lemmas.Bool.Decides.{nat_tests}
use Rattle.pm_base.specs.Stamps.{IsLeast, IsOneOf, stamp_lt, is_below, line_lt, num_lt, or_lower, least_line_of}
use Rattle.pm_base.specs.declared.stamp.Line.{Line}
use Rattle.pm_base.specs.declared.stamp.Line.TheVariants as line
use Rattle.pm_base.specs.declared.stamp.Num.{Num}
use Rattle.pm_base.specs.declared.stamp.Stamp.{Stamp}

pub stamp_lt-never_itself : (a : Stamp) → stamp_lt a a ≡ false
stamp_lt-never_itself a = grind (arith, nat_tests)

pub stamp_lt-trans : (a b c : Stamp) → stamp_lt a b ≡ true → stamp_lt b c ≡ true → stamp_lt a c ≡ true
stamp_lt-trans a b c p q = grind (arith, nat_tests)

-- where neither comes before the other, they are one
pub stamp_lt-same : (a b : Stamp) → stamp_lt a b ≡ false → stamp_lt b a ≡ false → a ≡ b
stamp_lt-same a b p q = grind (arith, nat_tests)

pub num_lt-never_itself : (a : Num) → num_lt a a ≡ false
num_lt-never_itself a = grind (arith, nat_tests)

pub num_lt-trans : (a b c : Num) → num_lt a b ≡ true → num_lt b c ≡ true → num_lt a c ≡ true
num_lt-trans a b c p q = grind (arith, nat_tests)

pub num_lt-same : (a b : Num) → num_lt a b ≡ false → num_lt b a ≡ false → a ≡ b
num_lt-same a b p q = grind (arith, nat_tests)

pub line_lt-never_itself : (a : Line) → line_lt a a ≡ false
line_lt-never_itself (line.At s) = stamp_lt-never_itself s
line_lt-never_itself line.End = refl

pub line_lt-trans : (a b c : Line) → line_lt a b ≡ true → line_lt b c ≡ true → line_lt a c ≡ true
line_lt-trans (line.At a) (line.At b) (line.At c) p q = stamp_lt-trans a b c p q
line_lt-trans (line.At a) (line.At b) line.End p q = refl
line_lt-trans (line.At a) line.End c p q = absurd (false≢true q)
line_lt-trans line.End b c p q = absurd (false≢true p)

pub line_lt-same : (a b : Line) → line_lt a b ≡ false → line_lt b a ≡ false → a ≡ b
line_lt-same (line.At a) (line.At b) p q = ap line.At (stamp_lt-same a b p q)
line_lt-same (line.At a) line.End p q = absurd (false≢true (sym p))
line_lt-same line.End (line.At b) p q = absurd (false≢true (sym q))
line_lt-same line.End line.End p q = refl

-- of two moments and a line the least is taken in any order
pub or_lower-swap : (a b : Stamp) (l : Line) → or_lower a (or_lower b l) ≡ or_lower b (or_lower a l)
or_lower-swap a b (line.At c) = grind (arith, nat_tests)
or_lower-swap a b line.End = grind (arith, nat_tests)

pub least_line_of-snoc : (ss : List Stamp) (s : Stamp) → least_line_of (ss ++ s ∷ []) ≡ or_lower s (least_line_of ss)
least_line_of-snoc [] s = refl
least_line_of-snoc (t ∷ ss) s = ap (or_lower t) (least_line_of-snoc ss s) ∙ or_lower-swap t s (least_line_of ss)

or_lower-left : (s : Stamp) (l : Line) → is_below s (or_lower s l) ≡ false
or_lower-left s (line.At t) = grind (arith, nat_tests)
or_lower-left s line.End = stamp_lt-never_itself s

or_lower-right : (s x : Stamp) (l : Line) → is_below x l ≡ false → is_below x (or_lower s l) ≡ false
or_lower-right s x (line.At t) h = grind (arith, nat_tests)
or_lower-right s x line.End h = absurd (false≢true (sym h))

pub least_line_of-lowest : (ss : List Stamp) → All (λ s. is_below s (least_line_of ss) ≡ false) ss
least_line_of-lowest [] k d h = elim h [ ]
least_line_of-lowest (s ∷ ss) zero d h = or_lower-left s (least_line_of ss)
least_line_of-lowest (s ∷ ss) (suc k) d h = or_lower-right s _ (least_line_of ss) (least_line_of-lowest ss k d (grind arith))

one_of-later : (t : Stamp) (ss : List Stamp) (l : Line) → is_below t l ≡ false → IsOneOf ss l → IsOneOf (t ∷ ss) l
one_of-later t ss (line.At s) h (k, low, is) = (suc k, grind arith, is)
one_of-later t ss line.End h is = absurd (false≢true (sym h))

one_of-lower : (t : Stamp) (ss : List Stamp) (l : Line) → (b : Bool) → is_below t l ≡ b → IsOneOf ss l → IsOneOf (t ∷ ss) (if b then line.At t else l)
one_of-lower t ss l true h is = (0, grind arith, refl)
one_of-lower t ss l false h is = one_of-later t ss l h is

pub least_line_of-found : (ss : List Stamp) → IsOneOf ss (least_line_of ss)
least_line_of-found [] = refl
least_line_of-found (s ∷ ss) = one_of-lower s ss (least_line_of ss) _ refl (least_line_of-found ss)

pub least_line_of-least : (ss : List Stamp) → IsLeast ss (least_line_of ss)
least_line_of-least ss = record { found = least_line_of-found ss; lowest = least_line_of-lowest ss }
