use Rattle.std.proofs.Common.{◌<◌, length, subst}
use Rattle.pm_ends.specs.Numbers.{nth}
use Rattle.pm_ends.proofs.Laws.{all_grew_same}
use Rattle.pm_cell.proofs.Drawing.{FromAt, drawn_here, from_at, on_ok, wired_here, wired_low}
use Rattle.pm_cell.proofs.settling.draw_at.Goals as goal

pub bounds-cells-from : goal.bounds-cells-from
bounds-cells-from c =
    let f : FromAt (nth c.args.inns.now c.args.at) c.in-Some.from = from_at
    (nth c.args.inns.now c.args.at) c.in-Some.from c.in-Some.ensures in
    subst (λ n. n < length c.args.cells.now) f.from (wired_low c.args.cells.now f.inn (c.requires c.args.at f.inn f.is))

pub draw_into-requires : goal.draw_into-requires
draw_into-requires c =
    let f : FromAt (nth c.args.inns.now c.args.at) c.in-Some.from = from_at
    (nth c.args.inns.now c.args.at) c.in-Some.from c.in-Some.ensures in
    wired_here c.args.cells.now c.args.inns.now c.args.at c.in-Some.from c.index-cells-from.result c.requires f

pub returns-in-Some-clause-drawn : goal.returns-in-Some-clause-drawn
returns-in-Some-clause-drawn c =
    let f : FromAt (nth c.args.inns.now c.args.at) c.in-Some.from = from_at
    (nth c.args.inns.now c.args.at) c.in-Some.from c.in-Some.ensures in
    let lt : c.in-Some.from < length c.args.cells.now = subst (λ n. n < length c.args.cells.now) f.from
    (wired_low c.args.cells.now f.inn (c.requires c.args.at f.inn f.is)) in
    on_ok c.draw_into.result _ _
    (drawn_here c.args.cells.now c.args.inns.now c.draw_into.new.inns c.args.at c.in-Some.from
    c.index-cells-from.result lt c.draw_into.ensures.inns f)
    c.draw_into.ensures.drawn

pub returns-in-None-clause-grew : goal.returns-in-None-clause-grew
returns-in-None-clause-grew c = all_grew_same c.args.inns.now
