use Rattle.std.proofs.Common.{◌≡◌, drop}
use Rattle.pm_tables.specs.Tables.{grow_periods_in}
use Rattle.pm_tables.proofs.table.Table.grow_periods.Given as goal

abbrev pub invariant-loop-period : goal.invariant-loop-period
invariant-loop-period l =
    grow_periods_in l.place l.class (drop l.period-index l.periods) l.self
    ≡ grow_periods_in l.place l.class l.periods l.fn.self
