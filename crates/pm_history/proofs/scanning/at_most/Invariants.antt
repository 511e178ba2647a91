use Rattle.std.proofs.Common.{◌≡◌, ◌≤◌, drop}
use Rattle.pm_history.specs.Scans.{value_after}
use Rattle.pm_history.proofs.scanning.at_most.Given as goal

abbrev pub invariant-loop-c : goal.invariant-loop-c
invariant-loop-c l = record {
  value : value_after 0 l.digits ≡ value_after l.n (drop l.c-index l.digits);
  most : l.n ≤
      l.most;
}
