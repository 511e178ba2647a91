use Rattle.std.proofs.Common.{◌≡◌, subst, is_some}
use Rattle.pm_saved.specs.Spots.{find, spot_of}
use Rattle.pm_saved.specs.Steps.{Kept}
use Rattle.pm_saved.proofs.saved.Saved.find.Goals as goal

pub find_in-requires : goal.find_in-requires
find_in-requires c = (c.self.inside.next, c.self.invariant)

pub returns-clause-place : goal.returns-clause-place
returns-clause-place c = subst (λ (k : Kept). find c.args.num k.steps
    ≡ spot_of c.find_in.result k.steps) c.self.view_is c.find_in.ensures.place

pub returns-clause-variant : goal.returns-clause-variant
returns-clause-variant c = subst (λ (k : Kept). is_some (find c.args.num k.steps)
    ≡ is_some c.find_in.result) c.self.view_is c.find_in.ensures.variant
