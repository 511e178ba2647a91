use Rattle.std.proofs.Common.{◌∙◌, ◌++◌, ◌<◌, ap, drop, length, map, subst, sym, take}
use Rattle.pm_cell.specs.Helds.{AreCells, Held, view_of, views}
use Rattle.pm_cell.specs.Stands.{CellLooked}
use Rattle.pm_cell.specs.Views.{story_of}
use Rattle.pm_ends.specs.Numbers.{Pairs}
use Rattle.pm_history.specs.Merged.{merged}
use Rattle.pm_threads.proofs.Going.{counted, epoch_moves, epoch_stands, epoch_went, worked_cells}
use Rattle.pm_threads.proofs.Writing.{as_many, written}
use Rattle.pm_threads.specs.Crews.{Stands, WentOn, Worked}
use Rattle.pm_threads.proofs.crew.epoch.Goals as goal

pub work-requires-clause-few : goal.work-requires-clause-few
work-requires-clause-few g c = λ κs within.
    subst (λ z. length z < 4294967296) (sym c.set_windows.ensures)
    (counted c.args.plan.now c.requires.valid c.args.journal.now.items c.args.window c.args.cells.now.items c.requires.stays)

pub settle-requires : goal.settle-requires
settle-requires g c =
    let old = c.args.cells.now.items in
    let did = subst (λ z. Worked c.args.quota c.in_ok-made.made z c.work.new.cells.items) c.set_windows.ensures
    c.in_ok-made.ensures.worked in
    subst (λ z. AreCells (views z)) (sym c.as_mut_slice.ensures.value)
    (worked_cells c.args.plan.now c.requires.valid c.args.window c.args.quota c.in_ok-made.made c.args.journal.now.items
    old c.work.new.cells.items c.work.new.cells.items c.requires.stays did)

pub returns-clause-went : goal.returns-clause-went
returns-clause-went g c =
    let p = c.args.plan.now in
    let j = c.args.journal.now.items in
    let old = c.args.cells.now.items in
    let worked = c.work.new.cells in
    let new = c.settle.new.cells in
    let did = subst (λ z. Worked c.args.quota c.in_ok-made.made z worked.items) c.set_windows.ensures
    c.in_ok-made.ensures.worked in
    let looked = subst (λ z. Pairs CellLooked (views z) (views new)) c.as_mut_slice.ensures.value c.settle.ensures.looked in
    let whole = written worked.len worked.items new worked.ok.0 (as_many CellLooked worked.items new looked) in
    let told = c.in_ok-events.ensures
    ∙ ap merged (c.in_ok-stories.ensures
    ∙ ap (map (λ (h : Held). story_of (view_of h))) (c.as_slice.ensures.value ∙ whole)) in
    subst (WentOn p c.args.window c.in_ok-made.made j)
    (sym (c.in_ok-extend_from_slice.ensures.items ∙ ap (λ z. j ++ z) c.as_slice-2.ensures))
    (epoch_went p c.requires.valid c.args.window c.args.quota c.in_ok-made.made j old worked.items new c.requires.stays did
    looked c.in_ok-settle.ensures.settled c.in_ok-events.events told)

pub returns-clause-stands : goal.returns-clause-stands
returns-clause-stands g c =
    let p = c.args.plan.now in
    let j = c.args.journal.now.items in
    let old = c.args.cells.now.items in
    let worked = c.work.new.cells in
    let new = c.settle.new.cells in
    let did = subst (λ z. Worked c.args.quota c.in_ok-made.made z worked.items) c.set_windows.ensures
    c.in_ok-made.ensures.worked in
    let looked = subst (λ z. Pairs CellLooked (views z) (views new)) c.as_mut_slice.ensures.value c.settle.ensures.looked in
    let whole = written worked.len worked.items new worked.ok.0 (as_many CellLooked worked.items new looked) in
    let told = c.in_ok-events.ensures
    ∙ ap merged (c.in_ok-stories.ensures
    ∙ ap (map (λ (h : Held). story_of (view_of h))) (c.as_slice.ensures.value ∙ whole)) in
    let final = take worked.len (new ++ drop (length new) worked.items) in
    subst (λ z. Stands p z final)
    (sym (c.in_ok-extend_from_slice.ensures.items ∙ ap (λ z. j ++ z) c.as_slice-2.ensures))
    (subst (Stands p (j ++ c.in_ok-events.events)) (sym whole)
    (epoch_stands p c.requires.valid c.args.window c.args.quota c.in_ok-made.made j old worked.items new c.requires.stays
    did looked c.in_ok-settle.ensures.settled c.in_ok-events.events told))

pub returns-clause-moves : goal.returns-clause-moves
returns-clause-moves g c =
    let did = subst (λ z. Worked c.args.quota c.in_ok-made.made z c.work.new.cells.items) c.set_windows.ensures
    c.in_ok-made.ensures.worked in
    epoch_moves c.args.plan.now c.requires.valid c.args.window c.args.quota c.in_ok-made.made c.args.journal.now.items
    c.args.cells.now.items c.work.new.cells.items c.work.new.cells.items c.requires.stays did c.requires.few
