use Rattle.std.proofs.Common.{◌≡◌, map, take}
use Rattle.pm_tables.specs.Tables.{first_row, stands}
use Rattle.pm_tables.proofs.port_row.PortRow.first.Given as goal

abbrev pub invariant-loop-class : goal.invariant-loop-class
invariant-loop-class l =
    l.bounds.items ≡ map (first_row (stands l.behind l.port) l.ways l.values) (take l.class-index l.classes)
