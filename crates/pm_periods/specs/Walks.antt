-- Puts with the mark whether they are live, and the periods that they end.
use Rattle.std.specs.Prelude.{◌&&◌, ◌++◌, Bool, true}
use Rattle.std.specs.Prelude.{Option, Some, None, if◌then◌else◌, List, [], ◌∷◌}
use Rattle.pm_base.specs.Changes.{applied}
use Rattle.pm_base.specs.Stamps.{is_after, is_below}
use Rattle.pm_base.specs.declared.rows.CutRow.{CutRow}
use Rattle.pm_base.specs.declared.rows.PutRow.{PutRow}
use Rattle.pm_base.specs.declared.stamp.Line.{Line}
use Rattle.pm_base.specs.declared.stamp.Stamp.{Stamp}
use Rattle.pm_base.specs.declared.value.Period.{Period}
use Rattle.pm_base.specs.declared.value.Value.{Value}
use Rattle.pm_periods.specs.Records.{is_live}
use Rattle.pm_periods.specs.Rows.{value_key}
use Rattle.pm_periods.specs.declared.rows.RowKey.{RowKey}

-- a put with the mark whether it is live
pub record Marked : Type 0 where
  pub row : PutRow
  pub live : Bool

-- the put without its mark
abbrev pub held_row : Marked → PutRow
held_row h = h.row

-- where a marked put stands among the changes of the value
abbrev pub held_order : Marked → RowKey
held_order h = value_key h.row

-- a put with the mark whether it is live
abbrev pub marked : List CutRow → PutRow → Marked
marked cuts p = record { row = p; live = is_live cuts p }

-- the value after a put, where it is live
abbrev pub step : Marked → Value → Value
step h v = if h.live then applied h.row.change v else v

-- the value after all of these that are live and below the line
abbrev pub held_value : Line → List Marked → Value → Value
held_value l [] v = v
held_value l (h ∷ hs) v = held_value l hs (if h.live && is_below h.row.stamp l then applied h.row.change v else v)

-- the period that a put ends, where it is live and stands after the start; the value is the one before it
abbrev pub ended : Option Stamp → Value → Marked → List Period
ended from v h =
    if h.live && is_after from h.row.stamp
    then record { when = record { from = from; until = Some h.row.stamp }; value = v } ∷ []
    else []

-- where the next period starts: at the put, where it ended one, else where the present one does
abbrev pub next_start : Option Stamp → Marked → Option Stamp
next_start from h = if h.live && is_after from h.row.stamp then Some h.row.stamp else from

-- the periods that these puts end, and the last one
abbrev pub spans : Option Stamp → Value → List Marked → List Period
spans from v [] = record { when = record { from = from; until = None }; value = v } ∷ []
spans from v (h ∷ hs) = ended from v h ++ spans (next_start from h) (step h v) hs

-- a live put
abbrev pub alive : PutRow → Marked
alive p = record { row = p; live = true }

-- the period that a write ends, if there is a write
abbrev pub ended_by : Option Stamp → Value → Option PutRow → List Period
ended_by from v None = []
ended_by from v (Some p) = ended from v (alive p)

-- where the next period starts
abbrev pub start_by : Option Stamp → Option PutRow → Option Stamp
start_by from None = from
start_by from (Some p) = next_start from (alive p)
