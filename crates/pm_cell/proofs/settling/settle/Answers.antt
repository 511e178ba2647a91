use Rattle.std.proofs.Common.{arith}
use Rattle.pm_cell.specs.Draws.{HeldGrew}
use Rattle.pm_cell.proofs.Drawing.{cells_drawn, drawn_past, held_same, helds_on}
use Rattle.pm_ends.proofs.Lists.{pairs_same}
use Rattle.pm_cell.proofs.Places.{pairs_long}
use Rattle.pm_cell.proofs.Settles.{grown_settled, grown_wired, helds_looked}
use Rattle.pm_cell.proofs.settling.settle.Goals as goal

pub loop-at-init : goal.loop-at-init
loop-at-init c = record {
  grew = pairs_same HeldGrew held_same c.args.cells.now;
  drawn = λ k lt. absurd (omega (arith, lt));
}

pub settle_at-requires-clause-wired : goal.settle_at-requires-clause-wired
settle_at-requires-clause-wired c = grown_wired c.args.cells.now c.loop-at.cells c.requires c.loop-at.invariant.grew
    c.loop-at.at

pub returns-in_err-settle_at-clause-looked : goal.returns-in_err-settle_at-clause-looked
returns-in_err-settle_at-clause-looked c = helds_looked c.args.cells.now c.settle_at.new.cells
    (helds_on c.args.cells.now c.loop-at.cells c.settle_at.new.cells c.loop-at.invariant.grew c.settle_at.ensures.grew)

pub loop-at-preserved : goal.loop-at-preserved
loop-at-preserved c = record {
  grew = helds_on c.args.cells.now c.loop-at.cells c.settle_at.new.cells c.loop-at.invariant.grew
      c.settle_at.ensures.grew;
  drawn = λ k lt. cells_drawn c.loop-at.cells c.settle_at.new.cells c.loop-at.at k c.settle_at.ensures.grew
      c.loop-at.invariant.drawn
      c.settle_at.ensures.others c.in_ok-settle_at.ensures.drawn lt;
}

pub returns-clause-looked : goal.returns-clause-looked
returns-clause-looked c = helds_looked c.args.cells.now c.loop-at.cells c.loop-at.invariant.grew

pub returns-clause-settled : goal.returns-clause-settled
returns-clause-settled c =
    let long = pairs_long HeldGrew c.args.cells.now c.loop-at.cells c.loop-at.invariant.grew in
    grown_settled c.args.cells.now c.loop-at.cells c.requires c.loop-at.invariant.grew
    (λ k. drawn_past c.loop-at.cells c.loop-at.at k
    (omega (arith, long, c.loop-at-test.false, c.loop-at.auto.at-end, c.loop-at.auto.cells)) c.loop-at.invariant.drawn)
