use Rattle.std.proofs.Common.{ap}
use Rattle.std.proofs.lemmas.Option.{none-some, same_Some}
use Rattle.pm_saved.specs.declared.kept.KeptSense.{KeptSense}
use Rattle.pm_saved.proofs.saved.Saved.complete.Goals as goal

pub returns-in-Some : goal.returns-in-Some
returns-in-Some c = λ s e. ap (λ (x : KeptSense). x.complete)
    (same_Some c.in-Some.sense.now s.sense (c.in-Some.ensures.there s e))

pub returns-in-None : goal.returns-in-None
returns-in-None c = λ s e. absurd (none-some s.sense (c.in-None.ensures.there s e))
