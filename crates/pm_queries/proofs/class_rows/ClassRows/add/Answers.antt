use Rattle.std.proofs.Common.{◌∙◌, ap, sym}
use Rattle.pm_queries.specs.Laid.{up_to}
use Rattle.pm_queries.specs.Queries.{add_reg, registered_key}
use Rattle.pm_queries.proofs.Rows.{add_reg-at}
use Rattle.pm_queries.proofs.class_rows.ClassRows.add.Goals as goal

pub returns-clause-ok : goal.returns-clause-ok
returns-clause-ok c =
    c.in_ok-insert.ensures.items
    ∙ (sym (add_reg-at c.args.row c.self.inside.rows.items c.up_to-at.result
    (c.up_to-at.ensures.value ∙ ap (up_to (registered_key c.args.row)) c.as_slice.ensures.value))
    ∙ ap (add_reg c.args.row) c.self.view_is)
