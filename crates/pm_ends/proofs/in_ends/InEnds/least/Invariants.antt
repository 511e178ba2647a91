use Rattle.std.proofs.Common.{◌≡◌, map, take}
use Rattle.pm_base.specs.Stamps.{least_line_of}
use Rattle.pm_ends.specs.Ends.{stamps_in}
use Rattle.pm_ends.specs.Sides.{inn_of}
use Rattle.pm_ends.proofs.in_ends.InEnds.least.Given as goal

abbrev pub invariant-loop-side : goal.invariant-loop-side
invariant-loop-side l = l.least ≡ least_line_of (stamps_in (map inn_of (take l.side-index l.ends)))
