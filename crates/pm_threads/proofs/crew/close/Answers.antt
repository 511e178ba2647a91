use Rattle.std.proofs.Common.{◌≡◌, ◌++◌, drop, length, subst, sym, take}
use Rattle.std.specs.Prelude.{IfOk, OnOk}
use Rattle.pm_cell.specs.Helds.{views}
use Rattle.pm_cell.specs.Stands.{CellsCommit, IsLeastOf, MayCommit, handed_by}
use Rattle.pm_threads.proofs.Closing.{close_may, close_result}
use Rattle.pm_threads.proofs.Writing.{written}
use Rattle.pm_threads.specs.Crews.{HasClosed, Stays}
use Rattle.pm_threads.proofs.crew.close.Goals as goal

pub commit-requires : goal.commit-requires
commit-requires c =
    let l = c.least-line.result in
    subst (λ z. MayCommit l (views z)) (sym c.as_mut_slice.ensures.value)
    (close_may c.args.plan.now c.requires.valid c.args.journal.now.items c.args.cells.now.items l c.requires.stands
    (subst (λ z. IsLeastOf l (views z)) c.as_slice.ensures.value c.least-line.ensures))

pub returns-clause-closed : goal.returns-clause-closed
returns-clause-closed c =
    let p = c.args.plan.now in
    let all = c.args.cells.now in
    let l = c.least-line.result in
    let new = c.commit.new.cells in
    let low = subst (λ z. IsLeastOf l (views z)) c.as_slice.ensures.value c.least-line.ensures in
    let did = subst (λ z. OnOk c.commit.result (CellsCommit l (views z) (views new))) c.as_mut_slice.ensures.value
    c.commit.ensures.cells in
    let entries = subst (λ z. IfOk c.commit.result (λ es. es ≡ handed_by l (views z))) c.as_mut_slice.ensures.value
    c.commit.ensures.entries in
    subst (λ z. IfOk c.commit.result (λ es. HasClosed p es c.args.journal.now.items z)) (sym c.in_ok-push.ensures.items)
    (close_result p c.requires.valid c.args.journal.now.items all.items new _ l c.commit.result c.requires.stands low
    (written all.len all.items new all.ok.0) did entries).0

pub returns-clause-stays : goal.returns-clause-stays
returns-clause-stays c =
    let p = c.args.plan.now in
    let all = c.args.cells.now in
    let l = c.least-line.result in
    let new = c.commit.new.cells in
    let low = subst (λ z. IsLeastOf l (views z)) c.as_slice.ensures.value c.least-line.ensures in
    let did = subst (λ z. OnOk c.commit.result (CellsCommit l (views z) (views new))) c.as_mut_slice.ensures.value
    c.commit.ensures.cells in
    let entries = subst (λ z. IfOk c.commit.result (λ es. es ≡ handed_by l (views z))) c.as_mut_slice.ensures.value
    c.commit.ensures.entries in
    let final = take all.len (new ++ drop (length new) all.items) in
    subst (λ z. OnOk c.commit.result (Stays p z final)) (sym c.in_ok-push.ensures.items)
    (close_result p c.requires.valid c.args.journal.now.items all.items new final l c.commit.result c.requires.stands low
    (written all.len all.items new all.ok.0) did entries).1
