use Rattle.std.proofs.Common.{◌≡◌, ◌+◌, ◌-◌, ◌^◌, ◌≤◌, length, map, min}
use Rattle.pm_clp.specs.Kept.{parts_in}
use Rattle.pm_clp.specs.Sizes.{rows_of}
use Rattle.pm_clp.proofs.Counting.{rest}
use Rattle.pm_clp.proofs.records.rows_of.Given as goal

abbrev pub invariant-loop-at : goal.invariant-loop-at
invariant-loop-at l = record {
  few : l.rows ≤ 2 ^ 64 - 1;
  within : l.at ≤ length l.each;
  rows : min (l.rows + rest l.at l.each) (2 ^ 64 - 1) ≡ min (rows_of (map parts_in l.each)) (2 ^ 64 - 1);
}

abbrev pub decreases-loop-at : goal.decreases-loop-at
decreases-loop-at l = length l.each - l.at
