use Rattle.std.proofs.Common.{◌≡◌, ◌+◌, length}
use Rattle.std.specs.Vec.Iter.{into_iter_items}
use Rattle.pm_cell.specs.Firsts.{all_woken}
use Rattle.pm_cell.proofs.begin.send_wakes.Given as goal

abbrev pub invariant-loop-wake : goal.invariant-loop-wake
invariant-loop-wake l = record {
  outs : all_woken l.number (into_iter_items l.wake-iterator) l.outs.items ≡ all_woken l.first l.fn.wakes
      l.fn.outs.items;
  count : l.number + length (into_iter_items l.wake-iterator) ≡ l.first + length l.fn.wakes;
  long : length l.outs.items ≡ length l.fn.outs.items;
}
