use Rattle.std.proofs.Common.{◌++◌, ◌∙◌, ap, subst, sym}
use Rattle.std.specs.List.Sorted.{IsPermutation}
use Rattle.pm_trace.specs.Merges.{StandsOnce}
use Rattle.pm_cell.specs.Committings.{ready_in}
use Rattle.pm_cell.specs.Helds.{views}
use Rattle.pm_cell.specs.Stands.{CellsCommit}
use Rattle.pm_cell.proofs.Commitments.{all_committed, ready_once, ready_same}
use Rattle.pm_cell.proofs.committing.commit.Goals as goal

pub in_stamp_order-requires : goal.in_stamp_order-requires
in_stamp_order-requires c = subst StandsOnce
    (sym (c.commit_all.ensures.entries ∙ ap (λ z. z ++ ready_in c.args.line c.args.cells.now)
    c.in_ok-entries.ensures.items))
    (ready_once c.args.line c.args.cells.now c.requires)

pub returns-clause-cells : goal.returns-clause-cells
returns-clause-cells c = subst (λ z. CellsCommit c.args.line (views c.args.cells.now) (views z))
    (sym c.commit_all.ensures.cells)
    (all_committed c.args.line c.args.cells.now c.commit_all.ensures.own c.requires.stands.sound)

pub returns-clause-entries : goal.returns-clause-entries
returns-clause-entries c = ready_same c.args.line c.args.cells.now c.requires c.in_stamp_order.result
    (subst (λ z. IsPermutation z c.in_stamp_order.result)
    (c.commit_all.ensures.entries ∙ ap (λ z. z ++ ready_in c.args.line c.args.cells.now) c.in_ok-entries.ensures.items)
    c.in_stamp_order.ensures.all) c.in_stamp_order.ensures.order
