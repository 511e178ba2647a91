use Rattle.std.proofs.Common.{◌≡◌, map, take}
use Rattle.pm_base.specs.Stamps.{least_line_of}
use Rattle.pm_mail.specs.Inner.{link_of}
use Rattle.pm_mail.specs.Links.{moments}
use Rattle.pm_mail.proofs.lanes.Lanes.least.Given as goal

abbrev pub invariant-loop-lane : goal.invariant-loop-lane
invariant-loop-lane l = l.least ≡ least_line_of (moments (map link_of (take l.lane-index l.lane-items)))
