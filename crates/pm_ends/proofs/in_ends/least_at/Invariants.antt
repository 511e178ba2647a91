use Rattle.std.proofs.Common.{◌≡◌, ◌++◌, ◌-◌, List, length, map, take}
use Rattle.pm_base.specs.Stamps.{least_line_of}
use Rattle.pm_base.specs.declared.stamp.Stamp.{Stamp}
use Rattle.pm_links.specs.Links.{waiting}
use Rattle.pm_ends.specs.Ends.{post_stamp}
use Rattle.pm_ends.proofs.in_ends.least_at.Given as goal

abbrev pub invariant-loop-post : goal.invariant-loop-post
invariant-loop-post l = (ss : List Stamp) → l.fn.least ≡ least_line_of ss
    → l.least ≡ least_line_of (ss ++ map post_stamp (take l.at (waiting l.side.end)))

abbrev pub decreases-loop-post : goal.decreases-loop-post
decreases-loop-post l = length (waiting l.side.end) - l.at
