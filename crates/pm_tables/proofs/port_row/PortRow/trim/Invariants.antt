use Rattle.std.proofs.Common.{◌≡◌, ◌++◌, map, take, drop}
use Rattle.pm_ranges.specs.Known.{trimmed}
use Rattle.pm_tables.proofs.port_row.PortRow.trim.Given as goal

abbrev pub invariant-loop-bounds : goal.invariant-loop-bounds
invariant-loop-bounds l =
    l.bounds-items ≡ map (trimmed l.line) (take l.bounds-index l.initial.bounds-items)
    ++ drop l.bounds-index l.initial.bounds-items
