use Rattle.std.specs.BTreeMap.{get}
use Rattle.pm_queries.specs.Laid.{num_cmp}
use Rattle.pm_queries.proofs.Layouts.{forgets-more}
use Rattle.pm_queries.proofs.class_rows.forget_each.Goals as goal

pub loop-row-preserved : goal.loop-row-preserved
loop-row-preserved c = λ n.
    forgets-more n c.args.rows.now c.loop-row.row-index c.row-item.result
    (get num_cmp c.loop-row.spots n) (get num_cmp c.forget.new.spots n) (get num_cmp c.args.spots.now n)
    c.loop-row-test.true c.row-item.is (c.loop-row.invariant n) (c.forget.ensures n)
