use Rattle.std.proofs.Common.{◌+◌, ◌-◌, ◌^◌, ◌≤◌, ◌≡◌, drop, min}
use Rattle.pm_core.proofs.Keeping.{at_alps}
use Rattle.pm_core.proofs.world.kept.kept_at_alps.Given as goal

abbrev pub invariant-loop-alp : goal.invariant-loop-alp
invariant-loop-alp l = record {
  few : l.kept ≤ 2 ^ 64 - 1;
  sum : min (l.kept + at_alps (drop l.alp-index l.alps)) (2 ^ 64 - 1) ≡ min (at_alps l.alps) (2 ^ 64 - 1);
}
