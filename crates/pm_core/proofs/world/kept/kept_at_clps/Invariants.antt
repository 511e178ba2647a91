use Rattle.std.proofs.Common.{◌+◌, ◌-◌, ◌^◌, ◌≤◌, ◌≡◌, drop, min}
use Rattle.pm_core.proofs.Keeping.{at_clps}
use Rattle.pm_core.proofs.world.kept.kept_at_clps.Given as goal

abbrev pub invariant-loop-clp : goal.invariant-loop-clp
invariant-loop-clp l = record {
  few : l.kept ≤ 2 ^ 64 - 1;
  sum : min (l.kept + at_clps (drop l.clp-index l.clps)) (2 ^ 64 - 1) ≡ min (at_clps l.clps) (2 ^ 64 - 1);
}
