-- The periods of a record: from one live write to the next, with the reads that see it.
use Rattle.std.specs.Prelude.{◌&&◌, Bool, true, not, Some, None, List, [], ◌∷◌, filter}
use Rattle.pm_base.specs.Changes.{applied}
use Rattle.pm_base.specs.Stamps.{stamp_lt}
use Rattle.pm_base.specs.declared.rows.Parts.{Parts}
use Rattle.pm_base.specs.declared.rows.PutRow.{PutRow}
use Rattle.pm_base.specs.declared.rows.ReadRow.{ReadRow}
use Rattle.pm_base.specs.declared.value.Value.{Value}
use Rattle.pm_periods.specs.Records.{in_value_order, is_live}
use Rattle.pm_periods.specs.declared.held.Held.{Held}

-- none of these writes is seen by the read
abbrev pub sees_none : List PutRow → ReadRow → Bool
sees_none [] q = true
sees_none (p ∷ ps) q = not (stamp_lt p.stamp q.stamp) && sees_none ps q

-- the write is the last one that the read sees
abbrev pub sees_last : PutRow → List PutRow → ReadRow → Bool
sees_last p ps q = stamp_lt p.stamp q.stamp && sees_none ps q

-- the periods that these writes begin, where that value is seen before them
abbrev pub held_from : List ReadRow → Value → List PutRow → List Held
held_from reads v [] = []
held_from reads v (p ∷ ps) =
    record { put = Some p; value = applied p.change v; reads = filter (sees_last p ps) reads } ∷
    held_from reads (applied p.change v) ps

-- the record's live writes in the order in which they change its value
abbrev pub live_puts : Parts → List PutRow
live_puts r = in_value_order (filter (is_live r.cuts) r.puts)

-- the first period is the base's and has the reads that see no live write; then comes one for each live write, with the
-- reads for which it is the last that they see
abbrev pub held_of : Parts → List Held
held_of r =
    record { put = None; value = r.base; reads = filter (sees_none (live_puts r)) r.reads } ∷
    held_from r.reads r.base (live_puts r)
