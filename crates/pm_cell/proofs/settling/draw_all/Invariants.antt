use Rattle.std.proofs.Common.{◌≡◌, ℕ, ◌<◌}
use Rattle.pm_cell.specs.Draws.{IsDrawnAt}
use Rattle.pm_ends.specs.Ends.{AllGrew}
use Rattle.pm_cell.proofs.settling.draw_all.Given as goal

abbrev pub invariant-loop-at : goal.invariant-loop-at
invariant-loop-at l = record {
  cells : l.cells ≡ l.initial.cells;
  grew : AllGrew l.initial.inns l.inns;
  drawn : (j : ℕ) → j < l.at → IsDrawnAt l.initial.cells l.inns j;
}
