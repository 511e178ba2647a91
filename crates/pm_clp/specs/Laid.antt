-- How the records are laid out: a slot for each variable, and two sets that find those that matter.
use Rattle.std.specs.Prelude.{ℕ, ◌<◌, ◌≤◌, ◌≡◌, ◌/◌, ◌%◌, ◌^◌, ◌==◌, Bool, false, List, [], length, get_or}
use Rattle.std.specs.Prelude.{Option, Some, None}
use Rattle.pm_periods.specs.Records.{Record}
use Rattle.std.specs.Int.{bit_at}
use Rattle.pm_clp.specs.Kept.{IsRecordOf}

-- the variable has its bit set in these words of 64 bits
abbrev pub in_set : List ℕ → ℕ → Bool
in_set words v = bit_at (get_or words (v / 64) 0) (v % 64) == 1

-- nothing but a base is kept in the slot
abbrev pub IsBare : Option Record → Type 0
IsBare None = Unit {0}
IsBare (Some r) = (r.parts.puts ≡ []) × ((r.parts.cuts ≡ []) × (r.parts.reads ≡ []))

-- a slot, where the sets tell whether a record is here and whether it may have rows: its record is of that variable
-- with no turn above the limit, there is none where none is told, and it has no rows where none are
pub record IsSlot (limit : ℕ) (is_here is_busy : Bool) (v : ℕ) (x : Option Record) : Type 0 where
  pub of : IsRecordOf limit v x
  pub here : is_here ≡ false → x ≡ None
  pub busy : is_busy ≡ false → IsBare x

-- so each slot is; a turn of a record that comes is below the limit, and the slots are few
pub record AreLaid (each : List (Option Record)) (limit : ℕ) (here busy : ℕ → Bool) : Type 0 where
  pub slots : (v : ℕ) → IsSlot limit (here v) (busy v) v (get_or each v None)
  pub high : 2 ^ 32 ≤ limit
  pub few : length each < 2 ^ 32
