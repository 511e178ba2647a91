-- What a change makes of a value.
use Rattle.std.specs.Prelude.{ℤ, ◌+ℤ◌, ◌&&◌, Bool}
use Rattle.std.specs.Int.{w64, saturate_signed}
use Rattle.std.specs.Ordering.{int_eq}
use Rattle.pm_base.specs.declared.value.Change.{Change}
use Rattle.pm_base.specs.declared.value.Change.TheVariants as change
use Rattle.pm_base.specs.declared.value.Value.{Value}

-- the sum, brought back to the ends of 64 bits
abbrev pub sum_within : ℤ → ℤ → ℤ
sum_within a b = saturate_signed w64 (a +ℤ b)

-- a set gives its value; an add gives the sums of the coordinates
abbrev pub applied : Change → Value → Value
applied (change.Set w) v = w
applied (change.Add w) v = record { x = sum_within v.x w.x; y = sum_within v.y w.y }

-- the two are the same value
abbrev pub value_eq : Value → Value → Bool
value_eq v w = int_eq v.x w.x && int_eq v.y w.y
