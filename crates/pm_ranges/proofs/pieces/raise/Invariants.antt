use Rattle.std.proofs.Common.{◌≡◌, ◌++◌, map, take, drop}
use Rattle.pm_ranges.specs.Known.{raised_one}
use Rattle.pm_ranges.proofs.pieces.raise.Given as goal

abbrev pub invariant-loop-at : goal.invariant-loop-at
invariant-loop-at l = l.pieces.items ≡ map (raised_one l.when l.window) (take l.at l.initial.pieces.items) ++ drop l.at l.initial.pieces.items
