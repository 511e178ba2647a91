use Rattle.std.proofs.Common.{◌<◌, length, map}
use Rattle.pm_ends.specs.Sides.{inn_of}
use Rattle.pm_ends.specs.Trees.{IsTreeTo}
use Rattle.pm_ends.proofs.tree.mend.Given as goal

abbrev pub invariant-loop-at : goal.invariant-loop-at
invariant-loop-at l = IsTreeTo (map inn_of l.ends) l.best.items l.at × (l.at < length l.best.items)

abbrev pub decreases-loop-at : goal.decreases-loop-at
decreases-loop-at l = l.at
