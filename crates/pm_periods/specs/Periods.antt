-- The values of a record over time, as periods.
use Rattle.std.specs.Prelude.{◌&&◌, Bool, if◌then◌else◌, List, [], ◌∷◌, map, filter, Option, Some, None}
use Rattle.pm_base.specs.Stamps.{holds, is_after}
use Rattle.pm_base.specs.declared.rows.Parts.{Parts}
use Rattle.pm_base.specs.declared.rows.PutRow.{PutRow}
use Rattle.pm_base.specs.declared.stamp.Line.TheVariants as line
use Rattle.pm_base.specs.declared.stamp.Stamp.{Stamp}
use Rattle.pm_base.specs.declared.value.Period.{Period}
use Rattle.pm_base.specs.declared.value.Value.{Value}
use Rattle.pm_periods.specs.Records.{is_live, record_value, value_below}

-- the periods that these puts end, from the start on, and the last one, which has no end
abbrev pub periods_of : Parts → Option Stamp → List PutRow → List Period
periods_of r from [] = record { when = record { from = from; until = None }; value = value_below r line.End } ∷ []
periods_of r from (p ∷ ps) =
    if is_live r.cuts p && is_after from p.stamp
    then record { when = record { from = from; until = Some p.stamp }; value = record_value r p.stamp } ∷
    periods_of r (Some p.stamp) ps
    else periods_of r from ps

-- a period ends at each stamp after the start at which a live put stands
abbrev pub periods_from : Parts → Option Stamp → List Period
periods_from r from = periods_of r from r.puts

-- a read at the stamp is made in this period
abbrev pub period_holds : Stamp → Period → Bool
period_holds s p = holds p.when s

-- what each read of the period sees
abbrev pub period_value : Period → Value
period_value p = p.value

-- the values that these periods tell at a stamp
abbrev pub values_at : Stamp → List Period → List Value
values_at s ps = map period_value (filter (period_holds s) ps)

-- what they must tell: what a read there sees, once; nothing at a stamp that isn't after the start
abbrev pub value_after_start : Parts → Option Stamp → Stamp → List Value
value_after_start r from s = if is_after from s then record_value r s ∷ [] else []
