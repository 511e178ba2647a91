use Rattle.std.proofs.Common.{◌∙◌, sym}
use Rattle.pm_ranges.proofs.Grows.{told-grown}
use Rattle.pm_ranges.proofs.Laying.{laid-grown}
use Rattle.pm_ranges.proofs.bounds.Bounds.grow.Goals as goal

pub invariant_of-self : goal.invariant_of-self
invariant_of-self c =
    rw (c.in_ok-pieces.ensures, c.raised_rest-self-inside.ensures, c.as_slice.ensures.value) (laid-grown c.args.when c.args.window c.self.inside.pieces.items c.self.inside.rest c.requires c.self.invariant)

pub returns-clause-exactly : goal.returns-clause-exactly
returns-clause-exactly c = told-grown c.args.self.now c.args.when c.args.window (sym c.covers.ensures.value ∙ c.if-covers.false)
