use Rattle.std.proofs.Common.{◌∙◌, ap, sym, set}
use Rattle.std.proofs.lemmas.List.Edits.{map_over_more}
use Rattle.pm_threads.specs.Crews.{windowed}
use Rattle.pm_threads.proofs.stories.set_windows.Goals as goal

pub loop-cell-preserved : goal.loop-cell-preserved
loop-cell-preserved c =
    ap (set c.loop-cell.cell-items c.loop-cell.cell-index)
    (c.set_window.ensures ∙ ap (windowed c.args.window) (sym c.cell-item.is))
    ∙ map_over_more (windowed c.args.window) c.deref_mut-cell-items.result.now c.loop-cell.cell-items
    c.loop-cell.cell-index c.cell-item.result c.loop-cell-test.true c.loop-cell.invariant c.cell-item.is
