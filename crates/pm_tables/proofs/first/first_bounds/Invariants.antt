use Rattle.std.proofs.Common.{◌≡◌, ◌+◌, ◌-◌}
use Rattle.pm_tables.specs.Tables.{first_row, grown_first, stands}
use Rattle.pm_tables.proofs.first.first_bounds.Given as goal

abbrev pub invariant-loop-k : goal.invariant-loop-k
invariant-loop-k l =
    grown_first (stands l.behind l.port) l.ways l.values (l.class.first + l.k) (l.class.count - l.k) l.bounds
    ≡ first_row (stands l.behind l.port) l.ways l.values l.class
