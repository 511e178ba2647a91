use Rattle.std.proofs.Common.{◌≡◌, ◌≤◌, ◌+◌, ◌++◌, length, map, take, drop}
use Rattle.std.specs.List.{AllByRecursion}
use Rattle.std.specs.Vec.{vec_capacity, vec_len}
use Rattle.pm_cell.specs.Committings.{held_at, ready_in}
use Rattle.pm_cell.specs.Helds.{IsOwn}
use Rattle.pm_cell.proofs.committing.commit_all.Given as goal

abbrev pub invariant-loop-cell : goal.invariant-loop-cell
invariant-loop-cell l = record {
  cells : l.cells
      ≡ map (held_at l.line) (take l.cell-index l.initial.cells) ++ drop l.cell-index l.initial.cells;
  entries : l.entries.items ≡ l.initial.entries.items ++ ready_in l.line (take l.cell-index l.initial.cells);
  room : vec_len l.entries + length (ready_in l.line (drop l.cell-index l.initial.cells)) ≤ vec_capacity l.entries;
  own : AllByRecursion IsOwn (take l.cell-index l.initial.cells);
}
