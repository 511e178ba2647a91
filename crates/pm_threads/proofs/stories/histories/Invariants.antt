use Rattle.std.proofs.Common.{◌≡◌, map, take}
use Rattle.pm_cell.specs.Helds.{Held, view_of}
use Rattle.pm_cell.specs.Views.{story_of}
use Rattle.pm_threads.proofs.stories.histories.Given as goal

abbrev pub invariant-loop-cell : goal.invariant-loop-cell
invariant-loop-cell l = l.all ≡ map (λ (c : Held). story_of (view_of c)) (take l.cell-index l.cells)
