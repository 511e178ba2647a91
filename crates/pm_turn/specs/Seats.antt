-- What a contract sees of turns and of their seats.
use Rattle.std.specs.Prelude.{◌≡◌, ◌≢◌, ℕ, ◌<◌, List, ◌∷◌, map, None}
use Rattle.pm_turn.specs.Rule.{FitsMark}
use Rattle.pm_turn.specs.declared.turns.Turns.{Turns}
use Rattle.pm_turn.specs.declared.turns.TurnSeat.{TurnSeat}

module _ {T : Type 0} where
  -- the values that the turns were made with
  abbrev pub marks : Turns T → List T
  marks turns = turns.table.shared.key.value

  -- the turns that a seat holds, the one that it took last first
  abbrev pub held : TurnSeat T → List ℕ
  held seat = seat.seat.me.0.holds

  -- how many of the 2^32 shares a seat has
  abbrev pub shares : TurnSeat T → ℕ
  shares seat = seat.seat.me.0.shares

  -- how often a seat tried to take a turn
  abbrev pub tries : TurnSeat T → ℕ
  tries seat = seat.seat.me.0.tries

  -- the word that a seat's last try read
  abbrev pub last_read : TurnSeat T → ℕ
  last_read seat = seat.seat.me.0.last

  -- a seat of these turns: it has a share, and the values that it holds were handed out
  pub record IsSeatOf (turns : Turns T) (seat : TurnSeat T) : Type 0 where
    pub table : seat.seat.table_id ≡ turns.table.shared.table_id
    pub marks : seat.seat.me.0.marks ≡ marks turns
    pub alive : 0 < seat.seat.me.0.shares
    pub out : seat.seat.me.1 ≡ map (λ i. (i, None)) seat.seat.me.0.holds

  -- a seat with the same shares, of the same turns
  abbrev pub SameSeat : Turns T → TurnSeat T → TurnSeat T → Type 0
  SameSeat turns a b = IsSeatOf turns b × (shares b ≡ shares a)

  -- the word that this try read wasn't 0, and no turn was taken
  abbrev pub Missed : TurnSeat T → TurnSeat T → Type 0
  Missed a b = (last_read b ≢ 0) × (held b ≡ held a)

  -- the word that this try read was 0, and turn i was taken with the value x, which fits its mark
  abbrev pub Taken : (T → T → Type 0) → Turns T → ℕ → T → TurnSeat T → TurnSeat T → Type 0
  Taken fits turns i x a b =
      (last_read b ≡ 0) × (held b ≡ i ∷ held a) × FitsMark fits (marks turns) i x
