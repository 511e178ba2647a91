use Rattle.std.proofs.Common.{◌≡◌, drop}
use Rattle.pm_periods.specs.Laid.{withdrawn_of}
use Rattle.pm_periods.specs.Rows.{IsInOrder, add_rows, put_key}
use Rattle.pm_periods.proofs.parts.add_withdrawn.Given as goal

abbrev pub invariant-loop-w : goal.invariant-loop-w
invariant-loop-w l = record {
  order : IsInOrder put_key l.puts.items;
  so_far : add_rows put_key l.fn.puts.items (withdrawn_of l.withdrawals) ≡ add_rows put_key l.puts.items (withdrawn_of (drop l.w-index l.withdrawals));
}
