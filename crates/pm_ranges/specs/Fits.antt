-- The laws of bounds: what growing, covering and trimming say of each stamp.
use Rattle.std.specs.Prelude.{◌≡◌, ◌↔◌, true, false, if◌then◌else◌, IsTrue, List, Some, None}
use Rattle.pm_base.specs.Stamps.{is_below, holds}
use Rattle.pm_base.specs.Windows.{Within, is_inverted}
use Rattle.pm_base.specs.declared.stamp.Interval.{Interval}
use Rattle.pm_base.specs.declared.stamp.Line.{Line}
use Rattle.pm_base.specs.declared.stamp.Stamp.{Stamp}
use Rattle.pm_base.specs.declared.value.Window.{Window}
use Rattle.pm_ranges.specs.Joins.{Row, AllIn, IsIn, NoneHolds, join_at, joined, within}
use Rattle.pm_ranges.specs.Known.{Known, Grows, IsCovered, bound_at, covers, grown, grown_all, nothing_known, trimmed}

-- all that is known at the stamp is within the window
abbrev pub Fits : Stamp → Window → Known → Type 0
Fits s u b = IsIn (bound_at b s) u

-- a bound is the join of the windows that were grown over the stamp, the least window that holds each of them
pub record BoundsAreJoins : Type 0 where
  pub join : (rows : List Row) (s : Stamp) → bound_at (grown_all rows) s ≡ join_at rows s
  pub none : (rows : List Row) (s : Stamp) → (join_at rows s ≡ None) ↔ NoneHolds rows s
  pub least : (rows : List Row) (s : Stamp) (u : Window) → IsIn (join_at rows s) u ↔ AllIn rows s u
  pub boxes : (a b : Window) → is_inverted a ≡ false → IsTrue (within a b) ↔ Within a b

-- growing joins the window to the bounds of its interval, and changes no other
pub record GrowingJoins (when : Interval) (w : Window) (b : Known) : Type 0 where
  pub line : (grown when w b).line ≡ b.line
  pub bound : (s : Stamp) → is_below s b.line ≡ false →
      bound_at (grown when w b) s ≡ (if holds when s then Some (joined w (bound_at b s)) else bound_at b s)

-- covering is told at each stamp, and is the same as not growing
pub record CoveringIsTold (when : Interval) (w : Window) (b : Known) : Type 0 where
  pub covered : IsTrue (covers b when w) ↔ IsCovered b when w
  pub grows : (covers b when w ≡ false) ↔ Grows when w b

-- trimming keeps the bounds that may be asked for
pub record TrimmingKeeps (l : Line) (b : Known) : Type 0 where
  pub line : (trimmed l b).line ≡ l
  pub bound : (s : Stamp) → is_below s l ≡ false → bound_at (trimmed l b) s ≡ bound_at b s

-- the same of what fits a window at a stamp that may be asked for
pub record FittingIsKept (b : Known) (s : Stamp) (u : Window) : Type 0 where
  pub nothing : Fits s u nothing_known
  pub grown : (when : Interval) (w : Window) → is_below s b.line ≡ false →
      Fits s u (grown when w b) ↔ (Fits s u b × (holds when s ≡ true → within w u ≡ true))
  pub covered : (when : Interval) (w : Window) → covers b when w ≡ true → is_below s b.line ≡ false →
      holds when s ≡ true → Fits s u b → within w u ≡ true
  pub trimmed : (l : Line) → is_below s l ≡ false → Fits s u (trimmed l b) ↔ Fits s u b
