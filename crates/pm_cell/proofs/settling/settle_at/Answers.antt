use Rattle.std.proofs.Common.{◌≡◌, ◌∙◌, List, [], ap, get_or, set, subst, sym}
use Rattle.pm_ends.specs.Ends.{AllGrew, Inn}
use Rattle.pm_ends.specs.Numbers.{Pairs, nth}
use Rattle.pm_cell.specs.Draws.{AllDrawnIn, AllWiredIn, HeldGrew}
use Rattle.pm_cell.specs.Helds.{Held, inns_of}
use Rattle.pm_ends.proofs.Laws.{all_grew_same}
use Rattle.pm_cell.proofs.Drawing.{away_outs, back_drawn, back_grew, back_others, inns_here, on_ok, wired_outs}
use Rattle.pm_cell.proofs.settling.settle_at.Goals as goal

-- the in-ends of the cell
abbrev own : (c : goal.After-inns-1) → List Inn
own c = (get_or c.args.cells.now c.args.at c.index-cells-at.result).inns

-- the cells without them
abbrev apart : (c : goal.After-inns-1) → List Held
apart c = set c.args.cells.now c.args.at c.take_inns-inns.new.self

apart_is : (c : goal.After-inns-1)
    → apart c ≡ set c.args.cells.now c.args.at (record (get_or c.args.cells.now c.args.at c.index-cells-at.result)
    { inns = [] })
apart_is c = ap (set c.args.cells.now c.args.at) c.take_inns-inns.ensures.none

pub draw_all-done-requires : goal.draw_all-done-requires
draw_all-done-requires c = wired_outs c.args.cells.now (apart c) c.take_inns-inns.result
    (away_outs c.args.cells.now (apart c) c.args.at c.requires.at c.index-cells-at.result c.index-cells-at.result
    (own c) (apart_is c) (all_grew_same (own c)))
    (subst (AllWiredIn c.args.cells.now)
    (inns_here c.args.cells.now c.args.at c.index-cells-at.result c.requires.at ∙ sym c.take_inns-inns.ensures.inns)
    c.requires.wired)

drawn_apart : (c : goal.After-put_inns)
    → c.draw_all-done.new.cells ≡ set c.args.cells.now c.args.at
    (record (get_or c.args.cells.now c.args.at c.index-cells-at.result) { inns = [] })
drawn_apart c = c.draw_all-done.ensures.cells ∙ ap (set c.args.cells.now c.args.at) c.take_inns-inns.ensures.none

more : (c : goal.After-put_inns) → AllGrew (get_or c.args.cells.now c.args.at c.index-cells-at.result).inns
    c.draw_all-done.new.inns
more c = subst (λ xs. AllGrew xs c.draw_all-done.new.inns) c.take_inns-inns.ensures.inns c.draw_all-done.ensures.grew

-- the cells in the end
last_is : (c : goal.After-put_inns)
    → set c.draw_all-done.new.cells c.args.at c.put_inns.new.self
    ≡ set c.draw_all-done.new.cells c.args.at (record (get_or c.draw_all-done.new.cells c.args.at
    c.index-cells-at-2.result) { inns = c.draw_all-done.new.inns })
last_is c = ap (set c.draw_all-done.new.cells c.args.at) c.put_inns.ensures

pub returns-clause-grew : goal.returns-clause-grew
returns-clause-grew c = subst (Pairs HeldGrew c.args.cells.now) (sym (last_is c))
    (back_grew c.args.cells.now c.draw_all-done.new.cells c.args.at c.requires.at c.index-cells-at.result
    c.index-cells-at-2.result
    c.draw_all-done.new.inns (drawn_apart c) (more c))

pub returns-clause-others : goal.returns-clause-others
returns-clause-others c = λ k ne. ap (λ z. nth z k) (last_is c)
    ∙ back_others c.args.cells.now c.draw_all-done.new.cells c.args.at c.requires.at c.index-cells-at.result
    c.index-cells-at-2.result
    c.draw_all-done.new.inns (drawn_apart c) (more c) k ne

pub returns-clause-drawn : goal.returns-clause-drawn
returns-clause-drawn c = on_ok c.draw_all-done.result _ _
    (λ all. subst (λ z. AllDrawnIn z (inns_of z c.args.at)) (sym (last_is c))
    (back_drawn c.args.cells.now c.draw_all-done.new.cells c.args.at c.requires.at c.index-cells-at.result
    c.index-cells-at-2.result
    c.draw_all-done.new.inns (drawn_apart c) (more c)
    (subst (λ z. AllDrawnIn z c.draw_all-done.new.inns) (sym c.draw_all-done.ensures.cells) all)))
    c.draw_all-done.ensures.drawn
