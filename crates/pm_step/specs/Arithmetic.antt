-- Arithmetic of rules: on the integers, brought back to the ends of 64 bits.
use Rattle.std.specs.Prelude.{zero, suc, Bool, true, false, not, if◌then◌else◌, ℤ, pos, negsuc, ◌+ℤ◌}
use Rattle.std.specs.Prelude.{◌-ℤ◌, ◌*ℤ◌, int_lt, int_le, int_div, int_rem}
use Rattle.std.specs.Int.{w64, saturate_signed, int_min, int_max}
use Rattle.pm_base.specs.declared.program.Op.{Op}
use Rattle.pm_base.specs.declared.program.Op.TheVariants as op

-- a comparison gives 1 where it holds, and 0 where it does not
abbrev pub truth_of : Bool → ℤ
truth_of true = pos 1
truth_of false = pos 0

-- the number is 0
abbrev pub is_zero : ℤ → Bool
is_zero (pos zero) = true
is_zero (pos (suc n)) = false
is_zero (negsuc n) = false

-- towards zero, and 0 by 0; the one quotient past 64 bits is brought back to the greatest number
abbrev pub quotient : ℤ → ℤ → ℤ
quotient a b = if is_zero b then pos 0 else saturate_signed w64 (int_div a b)

-- what a division towards zero leaves, with the sign of the dividend; 0 by 0
abbrev pub remainder : ℤ → ℤ → ℤ
remainder a b = if is_zero b then pos 0 else int_rem a b

-- the value of an operator between two numbers: sums, differences and products stop at the ends of 64 bits
abbrev pub compute : Op → ℤ → ℤ → ℤ
compute op.Add a b = saturate_signed w64 (a +ℤ b)
compute op.Sub a b = saturate_signed w64 (a -ℤ b)
compute op.Mul a b = saturate_signed w64 (a *ℤ b)
compute op.Div a b = quotient a b
compute op.Rem a b = remainder a b
compute op.Min a b = int_min a b
compute op.Max a b = int_max a b
compute op.Less a b = truth_of (int_lt a b)
compute op.AtMost a b = truth_of (int_le a b)
compute op.Equal a b = truth_of (is_zero (a -ℤ b))
compute op.Differ a b = truth_of (not (is_zero (a -ℤ b)))
