use Rattle.std.proofs.Common.{ap, ◌∙◌, subst, sym}
use Rattle.std.proofs.lemmas.Option.{none-some, same_Some}
use Rattle.pm_saved.specs.Inner.{HitsRise}
use Rattle.pm_saved.specs.Senses.{kept_hit}
use Rattle.pm_saved.specs.declared.kept.KeptSense.{KeptSense}
use Rattle.pm_saved.proofs.saved.Saved.hit_of.Goals as goal

pub hit_of-requires : goal.hit_of-requires
hit_of-requires c = subst HitsRise (sym c.as_slice.ensures) c.in-Some.ensures.rise

pub returns-in-Some : goal.returns-in-Some
returns-in-Some c = λ s e.
    c.hit_of.ensures ∙ (ap (kept_hit c.args.var) c.as_slice.ensures
    ∙ ap (λ (x : KeptSense). kept_hit c.args.var x.hits)
    (same_Some c.in-Some.sense.now s.sense (c.in-Some.ensures.there s e)))

pub returns-in-None : goal.returns-in-None
returns-in-None c = λ s e. absurd (none-some s.sense (c.in-None.ensures.there s e))
