-- Bounds that grow at all stamps, then from a stamp on.
use Rattle.std.specs.Prelude.{ℕ, ◌≡◌, true, false, [], ◌∷◌, pos, Option, Some, None}
use Rattle.pm_base.specs.declared.stamp.Interval.{Interval}
use Rattle.pm_base.specs.declared.stamp.Stamp.{Stamp}
use Rattle.pm_base.specs.declared.value.Window.{Window}
use Rattle.pm_ranges.specs.Joins.{Row}
use Rattle.pm_ranges.specs.Known.{Known, bound_at, covers, grown_all, nothing_known}

-- the moment of this time and agent
abbrev pub at : ℕ → ℕ → Stamp
at t a = record { time = t; agent = a }

-- the interval after the one moment, up to the other
abbrev pub between : Option Stamp → Option Stamp → Interval
between f u = record { from = f; until = u }

-- from 0 to this number, in the first coordinate
abbrev pub across : ℕ → ℕ → Window
across x0 x1 = record { x0 = pos x0; x1 = pos x1; y0 = pos 0; y1 = pos 0 }

-- this window, grown over this interval
abbrev pub row : Interval → Window → Row
row when w = record { when = when; window = w }

-- the latest row first
abbrev pub sample : Known
sample = grown_all (row (between (Some (at 3 0)) None) (across 5 5) ∷ row (between None None) (across 0 0) ∷ [])

-- new bounds have none; both rows grow; at (3,0) the bound is the first row's window, at (3,1) the join of both, and a
-- window between them is covered
pub record SampleBounds : Type 0 where
  pub none : bound_at nothing_known (at 0 0) ≡ None
  pub first : covers nothing_known (between None None) (across 0 0) ≡ false
  pub second : covers (grown_all (row (between None None) (across 0 0) ∷ []))
      (between (Some (at 3 0)) None) (across 5 5) ≡ false
  pub before : bound_at sample (at 3 0) ≡ Some (across 0 0)
  pub after : bound_at sample (at 3 1) ≡ Some (across 0 5)
  pub inside : covers sample (between (Some (at 4 0)) (Some (at 6 0))) (across 2 2) ≡ true
