use Rattle.std.proofs.Common.{◌≡◌, cond, take, None}
use Rattle.std.specs.BTreeMap.{get}
use Rattle.pm_base.specs.declared.stamp.Num.{Num}
use Rattle.pm_queries.specs.Laid.{num_cmp}
use Rattle.pm_queries.specs.Queries.{has_reg}
use Rattle.pm_queries.proofs.class_rows.forget_each.Given as goal

abbrev pub invariant-loop-row : goal.invariant-loop-row
invariant-loop-row l =
    (n : Num) → get num_cmp l.spots n ≡ cond (has_reg n (take l.row-index l.rows)) None (get num_cmp l.fn.spots n)
