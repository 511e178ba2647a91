-- Windows in which the values of a class were seen, each in an interval, and what they are together at a stamp.
use Rattle.std.specs.Prelude.{◌≡◌, ◌&&◌, Bool, true, false, int_le, if◌then◌else◌, List, [], ◌∷◌}
use Rattle.std.specs.Prelude.{Option, Some, None}
use Rattle.pm_base.specs.Stamps.{holds}
use Rattle.pm_base.specs.Windows.{join_of}
use Rattle.pm_base.specs.declared.stamp.Interval.{Interval}
use Rattle.pm_base.specs.declared.stamp.Stamp.{Stamp}
use Rattle.pm_base.specs.declared.value.Window.{Window}

-- at the stamps of this interval, values in this window
pub record Row : Type 0 where
  pub when : Interval
  pub window : Window

-- the ends of the first window are between those of the second
abbrev pub within : Window → Window → Bool
within a b = (int_le b.x0 a.x0 && int_le a.x1 b.x1) && (int_le b.y0 a.y0 && int_le a.y1 b.y1)

-- a window joined with what there was before
abbrev pub joined : Window → Option Window → Window
joined w None = w
joined w (Some u) = join_of w u

-- the join of the windows whose intervals hold the stamp, none where none does
abbrev pub join_at : List Row → Stamp → Option Window
join_at [] s = None
join_at (r ∷ rs) s = if holds r.when s then Some (joined r.window (join_at rs s)) else join_at rs s

-- no interval holds the stamp
abbrev pub NoneHolds : List Row → Stamp → Type 0
NoneHolds [] s = Unit {0}
NoneHolds (r ∷ rs) s = (holds r.when s ≡ false) × NoneHolds rs s

-- a window is within a bound; where nothing is known, none is
abbrev pub lies_in : Window → Option Window → Bool
lies_in w None = false
lies_in w (Some u) = within w u

-- a bound is within a window; where nothing is known, it is
abbrev pub IsIn : Option Window → Window → Type 0
IsIn None u = Unit {0}
IsIn (Some w) u = within w u ≡ true

-- the row says nothing of the stamp, or that values are within this window
abbrev pub Small : Stamp → Window → Row → Type 0
Small s u r = holds r.when s ≡ true → within r.window u ≡ true

-- each window whose interval holds the stamp is within this one
abbrev pub AllIn : List Row → Stamp → Window → Type 0
AllIn [] s u = Unit {0}
AllIn (r ∷ rs) s u = Small s u r × AllIn rs s u
