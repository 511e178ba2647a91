use Rattle.pm_tables.specs.Tables.{first_row, stands}
use Rattle.pm_tables.proofs.Firsts.{first_more}
use Rattle.pm_tables.proofs.first.first_bounds.Goals as goal

pub loop-k-preserved : goal.loop-k-preserved
loop-k-preserved c =
    first_more (stands c.args.behind c.args.port) c.args.ways.now
    c.args.values.now c.args.class.first c.loop-k.k c.args.class.count c.loop-k.bounds c.grow_if.new.bounds
    (first_row (stands c.args.behind c.args.port) c.args.ways.now c.args.values.now c.args.class)
    c.way_at.result c.stands-is_there.result c.value_at.result c.loop-k-test.true
    c.loop-k.invariant c.way_at.ensures c.stands-is_there.ensures c.value_at.ensures c.in_ok-grow_if.ensures
