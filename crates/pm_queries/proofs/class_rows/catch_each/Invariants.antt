use Rattle.std.proofs.Common.{◌≡◌, ◌++◌, map, filter, take, drop}
use Rattle.pm_queries.specs.Queries.{asks_at, catches_by, caught_by}
use Rattle.pm_tables.specs.Tables.{known_in}
use Rattle.pm_queries.proofs.class_rows.catch_each.Given as goal

abbrev pub invariant-loop-at : goal.invariant-loop-at
invariant-loop-at l = record {
  rows :
      l.rows.items ≡ map (caught_by (known_in l.place l.class l.table) l.port l.class) (take l.at l.fn.rows.items)
      ++ drop l.at l.fn.rows.items;
  out :
      l.out ≡ l.fn.out
      ++ asks_at
      l.port (filter (catches_by (known_in l.place l.class l.table) l.port l.class) (take l.at l.fn.rows.items));
}
