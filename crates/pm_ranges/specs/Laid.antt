-- How the pieces lie: their ends rise, and no window is inverted. So a stamp's piece is found by halving, and the bound
-- at the end of a piece is its own.
use Rattle.std.specs.Prelude.{ℕ, suc, ◌≡◌, ◌==◌, Bool, true, false, not, ◌&&◌, ◌||◌}
use Rattle.std.specs.Prelude.{if◌then◌else◌, List, [], ◌∷◌, Option, Some, None}
use Rattle.pm_base.specs.Stamps.{stamp_lt, is_after, is_below, holds}
use Rattle.pm_base.specs.Windows.{is_inverted}
use Rattle.pm_base.specs.declared.stamp.Interval.{Interval}
use Rattle.pm_base.specs.declared.stamp.Line.{Line}
use Rattle.pm_base.specs.declared.stamp.Stamp.{Stamp}
use Rattle.pm_base.specs.declared.value.Window.{Window}
use Rattle.pm_ranges.specs.Joins.{lies_in}
use Rattle.pm_ranges.specs.declared.piece.Piece.{Piece}

-- all pieces end after this stamp
abbrev pub Above : Option Stamp → List Piece → Type 0
Above e [] = Unit {0}
Above e (p ∷ ps) = (is_after e p.until ≡ true) × Above e ps

-- each piece ends after the one before it
abbrev pub Rising : List Piece → Type 0
Rising [] = Unit {0}
Rising (p ∷ ps) = Above (Some p.until) ps × Rising ps

-- the window, where there is one, isn't inverted
abbrev pub Upright : Option Window → Type 0
Upright None = Unit {0}
Upright (Some w) = is_inverted w ≡ false

-- no piece's window is inverted
abbrev pub AllUpright : List Piece → Type 0
AllUpright [] = Unit {0}
AllUpright (p ∷ ps) = Upright p.window × AllUpright ps

-- the pieces end one after another, and no window of theirs or behind them is inverted
pub record IsLaid (pieces : List Piece) (rest : Option Window) : Type 0 where
  pub rising : Rising pieces
  pub upright : AllUpright pieces
  pub behind : Upright rest

-- how many pieces end before the stamp
abbrev pub before : Stamp → List Piece → ℕ
before s [] = 0
before s (p ∷ ps) = if stamp_lt p.until s then suc (before s ps) else 0

-- each piece whose end the interval holds, and that is not below the line, has a bound that the window is within
abbrev pub piece_covers : Line → Interval → Window → Piece → Bool
piece_covers l when w p = is_below p.until l || (not (holds when p.until) || lies_in w p.window)

-- so of all pieces
abbrev pub pieces_cover : Line → Interval → Window → List Piece → Bool
pieces_cover l when w [] = true
pieces_cover l when w (p ∷ ps) = piece_covers l when w p && pieces_cover l when w ps

-- the first piece ends at this stamp
abbrev pub ends_at : Stamp → List Piece → Bool
ends_at e [] = false
ends_at e (p ∷ ps) = p.until.time == e.time && p.until.agent == e.agent
