use Rattle.std.proofs.Common.{◌≡◌, ◌+◌, ◌++◌, ◌≤◌, ℕ, [], get_or, length, Some}
use Rattle.std.specs.Vec.Iter.{into_iter_items}
use Rattle.pm_ends.specs.Numbers.{nth}
use Rattle.pm_core.specs.declared.process.Process.{Process}
use Rattle.pm_cell.specs.Firsts.{first_helds}
use Rattle.pm_cell.specs.Helds.{IsProcessOf}
use Rattle.pm_cell.proofs.begin.first_cells.Given as goal

abbrev pub invariant-loop-process : goal.invariant-loop-process
invariant-loop-process l = record {
  cells : l.cells ++ first_helds l.plan l.number (into_iter_items l.process-iterator) l.fn.inns.items l.fn.outs.items
      ≡ first_helds l.plan 0 l.fn.processes l.fn.inns.items l.fn.outs.items;
  count : l.number + length (into_iter_items l.process-iterator) ≡ length l.fn.processes;
  all : (k : ℕ) (x : Process) → nth (into_iter_items l.process-iterator) k ≡ Some x
      → IsProcessOf l.plan (l.number + k) x;
  inns : (k : ℕ) → l.number ≤ k → get_or l.inns.items k [] ≡ get_or l.fn.inns.items k [];
  outs : (k : ℕ) → l.number ≤ k → get_or l.outs.items k [] ≡ get_or l.fn.outs.items k [];
  inns_long : length l.inns.items ≡ length l.fn.inns.items;
  outs_long : length l.outs.items ≡ length l.fn.outs.items;
}
