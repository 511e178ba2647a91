use Rattle.std.proofs.Common.{◌≡◌, ◌+◌, ◌-◌, ◌^◌, ◌≤◌, length, drop, min}
use Rattle.pm_queries.specs.Laid.{merged}
use Rattle.pm_queries.proofs.queries.count_of.Given as goal

abbrev pub invariant-loop-rows : goal.invariant-loop-rows
invariant-loop-rows l = record {
  few : l.count ≤ 2 ^ 64 - 1;
  count : min (l.count + length (merged (drop l.rows-index l.classes))) (2 ^ 64 - 1) ≡ min (length (merged l.classes)) (2 ^ 64 - 1);
}
