use Rattle.std.proofs.Common.{◌≡◌, map, take}
use Rattle.pm_tables.specs.Tables.{first_classes}
use Rattle.pm_tables.proofs.table.first_rows.Given as goal

abbrev pub invariant-loop-port : goal.invariant-loop-port
invariant-loop-port l =
    l.rows.items ≡ map (first_classes l.behind l.classes l.ways l.values) (take l.port-index l.ports)
