use Rattle.std.proofs.Common.{◌≡◌, length, take}
use Rattle.std.specs.List.{list_any}
use Rattle.std.specs.Prelude.{is_none}
use Rattle.pm_plan.specs.Plans.{parents, is_off_tree}
use Rattle.pm_plan.proofs.Leasts.{LeastFrom}
use Rattle.pm_plan.proofs.tree.first_off_tree.Given as goal

abbrev pub invariant-loop-i : goal.invariant-loop-i
invariant-loop-i l = record {
  none_below : LeastFrom (is_off_tree (parents l.clps)) (length (parents l.clps)) l.i;
  root : l.root_before ≡ list_any is_none (take l.i (parents l.clps));
}
