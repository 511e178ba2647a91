-- A record that receives rows one after another.
use Rattle.std.specs.Prelude.{List, [], ◌∷◌}
use Rattle.pm_base.specs.declared.rows.CutRow.{CutRow}
use Rattle.pm_base.specs.declared.rows.Parts.{Parts}
use Rattle.pm_base.specs.declared.rows.PutRow.{PutRow}
use Rattle.pm_base.specs.declared.rows.ReadRow.{ReadRow}
use Rattle.pm_periods.specs.Records.{after_cut, after_put, record_value, with_hit, with_read}

-- these cuts
abbrev pub cuts_received : List CutRow → Parts → Parts
cuts_received [] r = r
cuts_received (c ∷ cs) r = cuts_received cs (after_cut c r)

-- these puts
abbrev pub puts_received : List PutRow → Parts → Parts
puts_received [] r = r
puts_received (p ∷ ps) r = puts_received ps (after_put p r)

-- these reads, each with the hit that it has and its turn as it was
abbrev pub reads_entered : List ReadRow → Parts → Parts
reads_entered [] r = r
reads_entered (q ∷ qs) r = reads_entered qs (with_read (with_hit (record_value r) q) r)
