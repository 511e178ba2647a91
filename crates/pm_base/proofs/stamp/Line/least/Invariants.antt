use Rattle.std.proofs.Common.{◌≡◌, take}
use Rattle.pm_base.specs.Stamps.{least_line_of}
use Rattle.pm_base.proofs.stamp.Line.least.Given as goal

abbrev pub invariant-loop-s : goal.invariant-loop-s
invariant-loop-s l = l.least ≡ least_line_of (take l.s-index l.stamps)
