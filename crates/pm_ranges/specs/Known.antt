-- What is known of one class behind one port: a bound for each stamp.
use Rattle.std.specs.Prelude.{◌≡◌, Bool, true, false, not, ◌&&◌, ◌||◌, if◌then◌else◌, is_none, List}
use Rattle.std.specs.Prelude.{[], ◌∷◌, map, filter, Option, Some, None}
use Rattle.pm_base.specs.Stamps.{stamp_lt, is_below, holds}
use Rattle.pm_base.specs.declared.stamp.Interval.{Interval}
use Rattle.pm_base.specs.declared.stamp.Line.{Line}
use Rattle.pm_base.specs.declared.stamp.Line.TheVariants as line
use Rattle.pm_base.specs.declared.stamp.Stamp.{Stamp}
use Rattle.pm_base.specs.declared.value.Window.{Window}
use Rattle.pm_ranges.specs.Joins.{Row, joined, lies_in}
use Rattle.pm_ranges.specs.declared.piece.Piece.{Piece}

-- the line below which nothing is asked, the bounds in pieces, and the bound behind all pieces
pub record Known : Type 0 where
  pub line : Line
  pub pieces : List Piece
  pub rest : Option Window

-- the first piece that ends at the stamp or later has its bound
abbrev pub bound_of : List Piece → Option Window → Stamp → Option Window
bound_of [] rest s = rest
bound_of (p ∷ ps) rest s = if stamp_lt p.until s then bound_of ps rest s else p.window

-- the bound at a stamp: the window of all that is known there, None where nothing is
abbrev pub bound_at : Known → Stamp → Option Window
bound_at b s = bound_of b.pieces b.rest s

-- before anything was grown, at each stamp from the first on
abbrev pub nothing_known : Known
nothing_known = record { line = line.At (record { time = 0; agent = 0 }); pieces = []; rest = None }

-- the same bounds, with a piece that ends at this stamp
abbrev pub parted : Stamp → List Piece → Option Window → List Piece
parted e [] rest = record { until = e; window = rest } ∷ []
parted e (p ∷ ps) rest =
    if stamp_lt p.until e then p ∷ parted e ps rest
    else if stamp_lt e p.until then record { until = e; window = p.window } ∷ p ∷ ps
    else p ∷ ps

-- the same bounds, with a piece that ends at this end of an interval, where it has one
abbrev pub parted_at : Option Stamp → List Piece → Option Window → List Piece
parted_at None ps rest = ps
parted_at (Some e) ps rest = parted e ps rest

-- the window joined to the pieces whose ends the interval holds
abbrev pub raised_one : Interval → Window → Piece → Piece
raised_one when w p = if holds when p.until then record p { window = Some (joined w p.window) } else p

-- the window joined to each of the pieces that the interval holds
abbrev pub raised : Interval → Window → List Piece → List Piece
raised when w ps = map (raised_one when w) ps

-- and to the bound behind them, where the interval has no end
abbrev pub raised_rest : Interval → Window → Option Window → Option Window
raised_rest when w rest = if is_none when.until then Some (joined w rest) else rest

-- with pieces that end where the interval does
abbrev pub grown_pieces : Interval → Window → List Piece → Option Window → List Piece
grown_pieces when w ps rest = raised when w (parted_at when.until (parted_at when.from ps rest) rest)

-- nothing is asked there, or the window is within the bound
abbrev pub covered_at : Known → Interval → Window → Stamp → Bool
covered_at b when w s = is_below s b.line || (not (holds when s) || lies_in w (bound_at b s))

-- so at the end of each piece
abbrev pub ends_covered : Known → Interval → Window → List Piece → Bool
ends_covered b when w [] = true
ends_covered b when w (p ∷ ps) = covered_at b when w p.until && ends_covered b when w ps

-- the line is the end, so that no stamp is asked any more
abbrev pub is_end : Line → Bool
is_end (line.At l) = false
is_end line.End = true

-- so at the interval's end; where it has none, behind all pieces
abbrev pub last_covered : Known → Interval → Window → Option Stamp → Bool
last_covered b when w None = is_end b.line || lies_in w b.rest
last_covered b when w (Some u) = covered_at b when w u

-- at all stamps, since at the end of each piece, and at the end of the interval
abbrev pub covers : Known → Interval → Window → Bool
covers b when w = ends_covered b when w b.pieces && last_covered b when w when.until

-- the window joined to the bounds of the interval, unless it is within them
abbrev pub grown : Interval → Window → Known → Known
grown when w b = if covers b when w then b else
    record b { pieces = grown_pieces when w b.pieces b.rest; rest = raised_rest when w b.rest }

-- one after another, the last one first in the list
abbrev pub grown_all : List Row → Known
grown_all [] = nothing_known
grown_all (r ∷ rs) = grown r.when r.window (grown_all rs)

-- the line becomes this one, and the pieces that end below it go
abbrev pub trimmed : Line → Known → Known
trimmed l b = record b { line = l; pieces = filter (λ p. not (is_below p.until l)) b.pieces }

-- some bound that may be asked for is another one after growing
abbrev pub Grows : Interval → Window → Known → Type 0
Grows when w b =
    (s : Stamp) × (is_below s b.line ≡ false) × (bound_at (grown when w b) s ≡ bound_at b s → ⊥)

-- the window is within each bound of the interval that may be asked for
abbrev pub IsCovered : Known → Interval → Window → Type 0
IsCovered b when w =
    (s : Stamp) → is_below s b.line ≡ false → holds when s ≡ true → lies_in w (bound_at b s) ≡ true
