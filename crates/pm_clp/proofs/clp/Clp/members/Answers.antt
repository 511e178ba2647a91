use Rattle.std.proofs.Common.{◌+◌, ◌<◌, ◌^◌, subst, sym}
use Rattle.pm_base.specs.declared.layout.ClassRow.{ClassRow}
use Rattle.pm_base.proofs.Classes.{class_under}
use Rattle.pm_clp.proofs.clp.Clp.members.Goals as goal

pub returns-clause-few : goal.returns-clause-few
returns-clause-few c =
    subst (λ (r : ClassRow). r.first + r.count < 2 ^ 32) (sym c.class_row.ensures)
    (class_under c.self.inside.layout c.self.invariant.classes c.args.class)
