use Rattle.pm_tables.proofs.Shapes.{grew_same}
use Rattle.pm_tables.proofs.port_row.PortRow.grow.Goals as goal

pub returns-clause-same : goal.returns-clause-same
returns-clause-same c = grew_same
    c.grow.result c.self.inside.classes.items c.args.self.now c.args.class c.index_mut-bounds.result.now c.grow.new.self
    c.args.when c.args.window c.self.view_is c.index_mut-bounds.ensures.value c.grow.ensures.bounds c.grow.ensures.value
