use Rattle.pm_tables.proofs.Shapes.{row_same}
use Rattle.pm_tables.proofs.table.Table.grow.Goals as goal

pub returns-clause-same : goal.returns-clause-same
returns-clause-same c = row_same c.grow.result c.self.inside.ports.items c.args.self.now c.args.place
    c.index_mut-row.result.now c.grow.new.self c.self.view_is c.index_mut-row.ensures.value c.grow.ensures.same
