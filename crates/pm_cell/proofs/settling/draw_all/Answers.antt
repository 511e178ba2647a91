use Rattle.std.proofs.Common.{◌∙◌, arith, refl, subst, sym}
use Rattle.pm_ends.specs.Ends.{Grew}
use Rattle.pm_cell.specs.Draws.{AllWiredIn, IsDrawnAt}
use Rattle.pm_ends.proofs.Laws.{all_grew_on, all_grew_same}
use Rattle.pm_cell.proofs.Drawing.{all_drawn, drawn_more, wired_grew}
use Rattle.pm_cell.proofs.Places.{pairs_long}
use Rattle.pm_cell.proofs.settling.draw_all.Goals as goal

pub loop-at-init : goal.loop-at-init
loop-at-init c = record {
  cells = refl;
  grew = all_grew_same c.args.inns.now;
  drawn = λ j lt. absurd (omega (arith, lt));
}

pub draw_at-requires : goal.draw_at-requires
draw_at-requires c = subst (λ hs. AllWiredIn hs c.loop-at.inns) (sym c.loop-at.invariant.cells)
    (wired_grew c.args.cells.now c.args.inns.now c.loop-at.inns c.loop-at.invariant.grew c.requires)

pub returns-in_err-draw_at-clause-grew : goal.returns-in_err-draw_at-clause-grew
returns-in_err-draw_at-clause-grew c =
    all_grew_on c.args.inns.now c.loop-at.inns c.draw_at.new.inns c.loop-at.invariant.grew c.draw_at.ensures.grew

pub loop-at-preserved : goal.loop-at-preserved
loop-at-preserved c = record {
  cells = c.draw_at.ensures.cells ∙ c.loop-at.invariant.cells;
  grew = all_grew_on c.args.inns.now c.loop-at.inns c.draw_at.new.inns c.loop-at.invariant.grew c.draw_at.ensures.grew;
  drawn = λ j lt. drawn_more c.args.cells.now c.loop-at.inns c.draw_at.new.inns c.loop-at.at j c.loop-at.invariant.drawn
      c.draw_at.ensures.others
      (subst (λ hs. IsDrawnAt hs c.draw_at.new.inns c.loop-at.at) c.loop-at.invariant.cells
      c.in_ok-draw_at.ensures.drawn) lt;
}

pub returns-clause-drawn : goal.returns-clause-drawn
returns-clause-drawn c =
    let long = pairs_long Grew c.args.inns.now c.loop-at.inns c.loop-at.invariant.grew in
    all_drawn c.args.cells.now c.loop-at.inns c.loop-at.at
    (omega (arith, long, c.loop-at-test.false, c.loop-at.auto.at-end, c.len-at-end.ensures)) c.loop-at.invariant.drawn
