use Rattle.std.proofs.Common.{◌≡◌, drop}
use Rattle.pm_periods.specs.Laid.{puts_of}
use Rattle.pm_periods.specs.Rows.{IsInOrder, add_rows, put_key}
use Rattle.pm_periods.proofs.parts.add_live.Given as goal

abbrev pub invariant-loop-h : goal.invariant-loop-h
invariant-loop-h l = record {
  order : IsInOrder put_key l.puts.items;
  so_far : add_rows put_key l.fn.puts.items (puts_of l.periods) ≡ add_rows put_key l.puts.items (puts_of (drop l.h-index l.periods));
}
