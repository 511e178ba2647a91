use Rattle.std.proofs.Common.{◌≡◌, ◌++◌, map, take, drop}
use Rattle.pm_ranges.specs.Known.{trimmed}
use Rattle.pm_tables.proofs.table.Table.trim.Given as goal

abbrev pub invariant-loop-row : goal.invariant-loop-row
invariant-loop-row l =
    l.row-items
    ≡ map (map (trimmed l.line)) (take l.row-index l.initial.row-items) ++ drop l.row-index l.initial.row-items
