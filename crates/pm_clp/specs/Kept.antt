-- The records that are here, as they are kept.
use Rattle.std.specs.Prelude.{ℕ, suc, ◌≤◌, ◌≡◌, ◌^◌, List, [], ◌∷◌, map, get_or, set, Option, Some, None}
use Rattle.std.specs.List.{AllByRecursion}
use Rattle.pm_base.specs.declared.rows.GiveRow.{GiveRow}
use Rattle.pm_base.specs.declared.rows.Parts.{Parts}
use Rattle.pm_base.specs.declared.rows.ReadRow.{ReadRow}
use Rattle.pm_base.specs.declared.stamp.Line.{Line}
use Rattle.pm_base.specs.declared.stamp.Stamp.{Stamp}
use Rattle.pm_base.specs.declared.value.Period.{Period}
use Rattle.pm_base.specs.declared.value.Value.{Value}
use Rattle.pm_periods.specs.Periods.{periods_from}
use Rattle.pm_periods.specs.Records.{HaveTurns, Record, empty_record, trimmed, with_parts}
use Rattle.pm_routes.specs.declared.way.Way.{Way}
use Rattle.pm_routes.specs.declared.way.Way.TheVariants as way
use Rattle.pm_clp.specs.Clps.{Answered, rec_at}

-- the records that are here, by variable, and a number that no turn of their reads is above
pub record Kept : Type 0 where
  pub recs : List (Option Parts)
  pub limit : ℕ

-- the parts of a record, where there is one
abbrev pub parts_in : Option Record → Option Parts
parts_in None = None
parts_in (Some r) = Some r.parts

-- what is kept, seen by parts
abbrev pub kept_of : List (Option Record) → ℕ → Kept
kept_of each limit = record { recs = map parts_in each; limit = limit }

-- no turn of a read is above the number
abbrev pub TurnsUpTo : ℕ → Parts → Type 0
TurnsUpTo n r = AllByRecursion (λ (q : ReadRow). q.turn ≤ n) r.reads

-- a record, where there is one, is of that variable, and has no turn above the number
abbrev pub IsRecordOf : ℕ → ℕ → Option Record → Type 0
IsRecordOf n v None = Unit {0}
IsRecordOf n v (Some r) = (r.var ≡ v) × TurnsUpTo n r.parts

-- each record is its variable's, and has no turn above the limit, which is at least that of a record that comes
pub record AreRecords (each : List (Option Record)) (limit : ℕ) : Type 0 where
  pub of : (v : ℕ) → IsRecordOf limit v (get_or each v None)
  pub high : 2 ^ 32 ≤ limit

-- each read of the record, where there is one, can be given one more hit
abbrev pub HaveTurnsIn : Option Record → Type 0
HaveTurnsIn None = Unit {0}
HaveTurnsIn (Some r) = HaveTurns r.parts.reads

-- a record, where there is one, after a letter
abbrev pub received : (ℕ → Parts → Answered) → Option Record → Option Record
received f None = None
received f (Some r) = Some (with_parts r (f r.var r.parts).rec)

-- the hits that it gives
abbrev pub received_gives : (ℕ → Parts → Answered) → Option Record → List GiveRow
received_gives f None = []
received_gives f (Some r) = (f r.var r.parts).gives

-- the records after the record of a variable, where it is here, took a letter
abbrev pub recs_after : (Parts → Answered) → ℕ → Option Parts → List (Option Parts) → List (Option Parts)
recs_after f v None rs = rs
recs_after f v (Some r) rs = set rs v (Some (f r).rec)

-- the hits that it gives
abbrev pub gives_after : (Parts → Answered) → Option Parts → List GiveRow
gives_after f None = []
gives_after f (Some r) = (f r).gives

-- what is kept after a letter that may raise each turn by one
abbrev pub kept_after : (Parts → Answered) → ℕ → Kept → Kept
kept_after f v k = record { recs = recs_after f v (rec_at k.recs v) k.recs; limit = suc k.limit }

-- what is kept after a letter that raises no turn
abbrev pub kept_watched : (Parts → Answered) → ℕ → Kept → Kept
kept_watched f v k = record { recs = recs_after f v (rec_at k.recs v) k.recs; limit = k.limit }

-- the periods of a record after a stamp, none where there is no record
abbrev pub periods_in : Option Stamp → Option Parts → List Period
periods_in from None = []
periods_in from (Some r) = periods_from r from

-- a record, where there is one, without what is below the line
abbrev pub trimmed_in : Line → Option Record → Option Record
trimmed_in l None = None
trimmed_in l (Some r) = Some (with_parts r (trimmed l r.parts))

-- the first record of a variable that is here
abbrev pub first_kept : ℕ → Way → Value → Option Record
first_kept v way.Here value = Some (empty_record v value)
first_kept v (way.Port d) value = None

-- the first records of all variables, from the one of that number on
abbrev pub first_each : ℕ → List Way → List Value → List (Option Record)
first_each v [] values = []
first_each v (y ∷ ys) [] = []
first_each v (y ∷ ys) (x ∷ xs) = first_kept v y x ∷ first_each (suc v) ys xs
