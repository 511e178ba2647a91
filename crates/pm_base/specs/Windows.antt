-- Boxes of values.
use Rattle.std.specs.Prelude.{ℤ, pos, negsuc, ◌^◌, ◌-◌, ◌≤ℤ◌, ◌<ℤ◌, int_le, int_lt, FitsSigned}
use Rattle.std.specs.Prelude.{◌&&◌, ◌||◌, Bool, ◌⊎◌}
use Rattle.std.specs.Int.{w64, int_min, int_max}
use Rattle.pm_base.specs.declared.value.Value.{Value}
use Rattle.pm_base.specs.declared.value.Window.{Window}

-- a value is inside a window: each coordinate is between the window's ends, these included
pub record Inside (v : Value) (w : Window) : Type 0 where
  pub left : w.x0 ≤ℤ v.x
  pub right : v.x ≤ℤ w.x1
  pub low : w.y0 ≤ℤ v.y
  pub high : v.y ≤ℤ w.y1

-- a number is between two ends, these included
abbrev pub between : ℤ → ℤ → ℤ → Bool
between low z high = int_le low z && int_le z high

-- the test whether a value is inside a window
abbrev pub inside : Value → Window → Bool
inside v w = between w.x0 v.x w.x1 && between w.y0 v.y w.y1

-- the ends stand the wrong way round, so that no value is inside
abbrev pub IsInverted : Window → Type 0
IsInverted w = (w.x1 <ℤ w.x0) ⊎ (w.y1 <ℤ w.y0)

-- the test whether the ends stand the wrong way round
abbrev pub is_inverted : Window → Bool
is_inverted w = int_lt w.x1 w.x0 || int_lt w.y1 w.y0

-- both coordinates are numbers of 64 bits
pub record IsPair (v : Value) : Type 0 where
  pub x : FitsSigned w64 v.x
  pub y : FitsSigned w64 v.y

-- the box of this value alone
abbrev pub point_of : Value → Window
point_of v = record { x0 = v.x; x1 = v.x; y0 = v.y; y1 = v.y }

-- the box of all pairs
abbrev pub whole : Window
whole = record { x0 = negsuc (2 ^ 63 - 1); x1 = pos (2 ^ 63 - 1); y0 = negsuc (2 ^ 63 - 1); y1 = pos (2 ^ 63 - 1) }

-- what is inside the one is inside the other
abbrev pub Within : Window → Window → Type 0
Within a b = (v : Value) → Inside v a → Inside v b

-- from the lesser of the begins to the greater of the ends
abbrev pub join_of : Window → Window → Window
join_of a b = record { x0 = int_min a.x0 b.x0; x1 = int_max a.x1 b.x1; y0 = int_min a.y0 b.y0; y1 = int_max a.y1 b.y1 }

-- the window holds what both hold, and is inside each other window that does
pub record IsLeastBox (a b joined : Window) : Type 0 where
  pub first : Within a joined
  pub second : Within b joined
  pub least : (w : Window) → Within a w → Within b w → Within joined w

-- some value is inside both
abbrev pub Meets : Window → Window → Type 0
Meets a b = (v : Value) × Inside v a × Inside v b

-- in one coordinate, some number is between both pairs of ends: the greater begin is no greater than the lesser end
unfoldable pub overlap : ℤ → ℤ → ℤ → ℤ → Bool
overlap a0 a1 b0 b1 = int_le (int_max a0 b0) (int_min a1 b1)

-- the test whether some value is inside both windows: they overlap in each coordinate, ends included
abbrev pub meets : Window → Window → Bool
meets a b = overlap a.x0 a.x1 b.x0 b.x1 && overlap a.y0 a.y1 b.y0 b.y1
