use Rattle.std.proofs.Common.{List, ap, subst}
use Rattle.pm_ends.proofs.Laws.{all_grew_on}
use Rattle.pm_ends.specs.Ends.{AllGrew, Inn}
use Rattle.pm_cell.specs.Helds.{Held}
use Rattle.pm_cell.proofs.cell.Cell.look.Goals as goal

pub returns-clause-grew : goal.returns-clause-grew
returns-clause-grew c = all_grew_on c.args.self.now.inns c.poll_next.new.self c.poll_all.new.inns
    (subst (λ (l : List Inn). AllGrew l c.poll_next.new.self) (ap (λ (z : Held). z.inns) c.self.view_is)
    c.poll_next.ensures) c.poll_all.ensures
