use Rattle.std.proofs.Common.{◌≡◌, ◌++◌, map, take, drop}
use Rattle.pm_threads.specs.Crews.{windowed}
use Rattle.pm_threads.proofs.stories.set_windows.Given as goal

abbrev pub invariant-loop-cell : goal.invariant-loop-cell
invariant-loop-cell l =
    l.cell-items
    ≡ map (windowed l.window) (take l.cell-index l.initial.cell-items) ++ drop l.cell-index l.initial.cell-items
