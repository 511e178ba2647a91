-- The seats of the workers.
use Rattle.std.specs.Prelude.{◌≡◌, []}
use Rattle.pm_turn.specs.declared.turns.Turns.{Turns}
use Rattle.pm_turn.specs.declared.turns.TurnSeat.{TurnSeat}
use Rattle.pm_turn.specs.Seats.{IsSeatOf, held, shares}

module _ {T : Type 0} where
  -- a seat of these turns, which holds none
  abbrev pub IsIdle : Turns T → TurnSeat T → Type 0
  IsIdle turns seat = IsSeatOf turns seat × (held seat ≡ [])

  -- a seat of these turns, which holds none and has as many shares as a
  abbrev pub SameIdle : Turns T → TurnSeat T → TurnSeat T → Type 0
  SameIdle turns a b = IsIdle turns b × (shares b ≡ shares a)
