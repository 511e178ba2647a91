-- The order of stamps.
use Rattle.std.proofs.Common.{◌≡◌, ◌⊎◌, inl, true, false, refl, arith}
use Rattle.std.proofs.lemmas.Bool.Decides.{nat_tests}
use Rattle.pm_base.specs.declared.stamp.Line.{Line}
use Rattle.pm_base.specs.declared.stamp.Num.{Num}
use Rattle.pm_base.specs.declared.stamp.Stamp.{Stamp}
use Rattle.pm_base.specs.Stamps.{IsBefore, stamp_lt, num_eq}
use Rattle.pm_sim.specs.Sims.{AtMost, NotPast, Past, after, is_past}
use Rattle.pm_base.specs.declared.stamp.Line.TheVariants as line

pub lt_tells : (a b : Stamp) → ((stamp_lt a b ≡ true) × IsBefore a b) ⊎ ((stamp_lt a b ≡ false) × AtMost b a)
lt_tells a b = grind (arith, nat_tests)

pub lt_true : (a b : Stamp) → IsBefore a b → stamp_lt a b ≡ true
lt_true a b h = grind (arith, nat_tests)

pub lt_false : (a b : Stamp) → AtMost b a → stamp_lt a b ≡ false
lt_false a b h = grind (arith, nat_tests)

pub true_lt : (a b : Stamp) → stamp_lt a b ≡ true → IsBefore a b
true_lt a b h = grind (arith, nat_tests)

pub false_lt : (a b : Stamp) → stamp_lt a b ≡ false → AtMost b a
false_lt a b h = grind (arith, nat_tests)

pub before_trans : (a b c : Stamp) → IsBefore a b → IsBefore b c → IsBefore a c
before_trans a b c h k = grind arith

pub at_most_before : (a b c : Stamp) → AtMost a b → IsBefore b c → IsBefore a c
at_most_before a b c h k = grind arith

pub before_at_most : (a b c : Stamp) → IsBefore a b → AtMost b c → IsBefore a c
before_at_most a b c h k = grind arith

pub before_not : (a b : Stamp) → IsBefore a b → AtMost b a → ⊥
before_not a b h k = grind arith

pub stamps_same : (a b : Stamp) → a.time ≡ b.time → a.agent ≡ b.agent → a ≡ b
stamps_same a b h k = λ i. record { time = h i; agent = k i }

pub nums_same : (m n : Num) → num_eq m n ≡ true → m ≡ n
nums_same m n h =
    let t : m.agent ≡ n.agent = grind (arith, nat_tests) in
    let u : m.seq ≡ n.seq = grind (arith, nat_tests) in
    λ i. record { agent = t i; seq = u i }

pub num_eq_self : (m : Num) → num_eq m m ≡ true
num_eq_self m = grind (arith, nat_tests)

pub past_tells : (l : Line) (s : Stamp) → ((is_past l s ≡ true) × Past l s) ⊎ ((is_past l s ≡ false) × NotPast l s)
past_tells (line.At l) s = lt_tells s l
past_tells line.End s = inl (refl, tt)

pub past_true : (l : Line) (s : Stamp) → Past l s → is_past l s ≡ true
past_true (line.At l) s h = lt_true s l h
past_true line.End s h = refl

pub past_false : (l : Line) (s : Stamp) → NotPast l s → is_past l s ≡ false
past_false (line.At l) s h = lt_false s l h
past_false line.End s h = absurd h

pub past_down : (l : Line) (a b : Stamp) → AtMost a b → Past l b → Past l a
past_down (line.At l) a b h k = at_most_before a b l h k
past_down line.End a b h k = tt

pub past_not : (l : Line) (s : Stamp) → Past l s → NotPast l s → ⊥
past_not (line.At l) s h k = before_not s l h k
past_not line.End s h k = k

pub not_past_up : (l : Line) (a b : Stamp) → AtMost a b → NotPast l a → NotPast l b
not_past_up (line.At l) a b h k = grind arith
not_past_up line.End a b h k = k

-- a stamp that the line is at least
abbrev pub IsUnder : Line → Stamp → Type 0
IsUnder (line.At l) c = AtMost c l
IsUnder line.End c = Unit {0}

pub under_after : (l : Line) (s : Stamp) → Past l s → IsUnder l (after s)
under_after (line.At l) s h = grind arith
under_after line.End s h = tt

pub under_zero : (l : Line) → IsUnder l (record { time = 0; agent = 0 })
under_zero (line.At l) = grind arith
under_zero line.End = tt
