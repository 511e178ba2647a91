use Rattle.std.proofs.Common.{ap, ◌∙◌, subst, sym}
use Rattle.std.proofs.lemmas.Option.{none-some, same_Some}
use Rattle.pm_saved.specs.Inner.{HitsRise}
use Rattle.pm_saved.specs.Senses.{kept_turn}
use Rattle.pm_saved.specs.declared.kept.KeptSense.{KeptSense}
use Rattle.pm_saved.proofs.saved.Saved.turn_of.Goals as goal

pub turn_of-requires : goal.turn_of-requires
turn_of-requires c = subst HitsRise (sym c.as_slice.ensures) c.in-Some.ensures.rise

pub returns-in-Some : goal.returns-in-Some
returns-in-Some c = λ s e.
    c.turn_of.ensures ∙ (ap (kept_turn c.args.var) c.as_slice.ensures
    ∙ ap (λ (x : KeptSense). kept_turn c.args.var x.hits)
    (same_Some c.in-Some.sense.now s.sense (c.in-Some.ensures.there s e)))

pub returns-in-None : goal.returns-in-None
returns-in-None c = λ s e. absurd (none-some s.sense (c.in-None.ensures.there s e))
