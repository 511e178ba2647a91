use Rattle.std.proofs.Common.{◌≡◌, ◌++◌, cond, map, take, drop, None}
use Rattle.std.specs.BTreeMap.{get}
use Rattle.pm_base.specs.declared.stamp.Num.{Num}
use Rattle.pm_queries.specs.Laid.{drops, num_cmp}
use Rattle.pm_queries.specs.Queries.{not_below}
use Rattle.pm_queries.proofs.queries.drop_below.Given as goal

abbrev pub invariant-loop-at : goal.invariant-loop-at
invariant-loop-at l = record {
  classes : l.classes.items ≡ map (not_below l.line) (take l.at l.fn.classes.items) ++ drop l.at l.fn.classes.items;
  spots : (n : Num)
      → get num_cmp l.spots n ≡ cond (drops n l.line (take l.at l.fn.classes.items)) None (get num_cmp l.fn.spots n);
}
