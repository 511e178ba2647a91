use Rattle.std.proofs.Common.{◌≡◌, ap, ◌∙◌}
use Rattle.pm_saved.specs.Spots.{step_at}
use Rattle.pm_saved.specs.Steps.{Kept}
use Rattle.pm_saved.proofs.saved.Saved.sense.Goals as goal

pub sense_in-requires : goal.sense_in-requires
sense_in-requires c = (c.self.inside.next, c.self.invariant)

pub returns-clause-there : goal.returns-clause-there
returns-clause-there c = λ s e.
    c.sense_in.ensures.there s (ap (λ (k : Kept). step_at c.args.at.step c.args.at.sense k.steps) c.self.view_is ∙ e)
