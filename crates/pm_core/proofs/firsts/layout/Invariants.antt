use Rattle.std.proofs.Common.{◌≡◌, take}
use Rattle.pm_core.proofs.firsts.layout.Given as goal

abbrev pub invariant-loop-row : goal.invariant-loop-row
invariant-loop-row l = l.classes ≡ take l.row-index l.row-items
