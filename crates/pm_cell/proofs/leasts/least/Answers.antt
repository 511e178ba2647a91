use Rattle.std.proofs.Common.{◌+◌, arith, subst, sym, take, take_all}
use Rattle.pm_cell.specs.Leasts.{stamps_of}
use Rattle.pm_cell.proofs.Leasting.{AllRise, IsLow, low_is_least, low_more, rise_more}
use Rattle.pm_cell.proofs.leasts.least.Goals as goal

pub loop-cell-preserved : goal.loop-cell-preserved
loop-cell-preserved c =
    let hs = c.args.cells.now in
    let i = c.loop-cell.cell-index in
    let h = c.cell-item.result in (
      subst (λ l. IsLow l (stamps_of (take (i + 1) hs))) (sym c.lesser-least.ensures)
          (low_more hs i h c.loop-cell.least c.least.result c.loop-cell-test.true c.cell-item.is
          c.loop-cell.invariant.0 c.least.ensures.least),
      rise_more hs i h c.loop-cell-test.true c.cell-item.is c.loop-cell.invariant.1 c.least.ensures.rise,
    )

pub returns : goal.returns
returns c =
    let whole = take_all c.loop-cell.cell-index c.args.cells.now (omega (arith, c.loop-cell-test.false)) in
    low_is_least c.loop-cell.least c.args.cells.now (subst AllRise whole c.loop-cell.invariant.1)
    (subst (λ z. IsLow c.loop-cell.least (stamps_of z)) whole c.loop-cell.invariant.0)
