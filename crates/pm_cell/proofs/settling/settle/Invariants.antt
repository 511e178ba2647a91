use Rattle.std.proofs.Common.{ℕ, ◌<◌}
use Rattle.pm_cell.specs.Draws.{AllDrawnIn, HeldGrew}
use Rattle.pm_cell.specs.Helds.{inns_of}
use Rattle.pm_ends.specs.Numbers.{Pairs}
use Rattle.pm_cell.proofs.settling.settle.Given as goal

abbrev pub invariant-loop-at : goal.invariant-loop-at
invariant-loop-at l = record {
  grew : Pairs HeldGrew l.initial.cells l.cells;
  drawn : (k : ℕ) → k < l.at → AllDrawnIn l.cells (inns_of l.cells k);
}
