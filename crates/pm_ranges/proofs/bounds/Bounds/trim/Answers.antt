use Rattle.pm_ranges.proofs.Laying.{laid-trimmed}
use Rattle.pm_ranges.proofs.bounds.Bounds.trim.Goals as goal

pub drop_below-requires : goal.drop_below-requires
drop_below-requires c = c.self.invariant.rising

pub invariant_of-self : goal.invariant_of-self
invariant_of-self c = rw c.drop_below.ensures (laid-trimmed c.args.line c.self.inside.pieces.items c.self.inside.rest c.self.invariant)
