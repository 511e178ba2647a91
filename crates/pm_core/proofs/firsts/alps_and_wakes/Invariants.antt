use Rattle.std.proofs.Common.{◌≡◌, ◌++◌, drop}
use Rattle.pm_core.specs.Firsts.{first_alps, first_wakes}
use Rattle.pm_core.proofs.firsts.alps_and_wakes.Given as goal

abbrev pub invariant-loop-i : goal.invariant-loop-i
invariant-loop-i l = record {
  processes : l.all.items ++ first_alps l.plan l.i (drop l.i l.row-items) ≡ first_alps l.plan 0 l.row-items;
  wakes : l.wakes ++ first_wakes (first_alps l.plan l.i (drop l.i l.row-items))
      ≡ l.initial.wakes ++ first_wakes (first_alps l.plan 0 l.row-items);
}
