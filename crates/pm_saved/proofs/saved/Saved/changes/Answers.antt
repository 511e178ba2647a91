use Rattle.std.proofs.Common.{ap, ◌∙◌, subst, sym, not}
use Rattle.std.proofs.lemmas.Option.{none-some, same_Some}
use Rattle.pm_saved.specs.Inner.{HitsRise}
use Rattle.pm_saved.specs.Senses.{add_kept, answer, hits_eq}
use Rattle.pm_saved.specs.declared.kept.KeptSense.{KeptSense}
use Rattle.pm_saved.proofs.saved.Saved.changes.Goals as goal

pub changes-requires : goal.changes-requires
changes-requires c = subst HitsRise (sym c.as_slice.ensures) c.in-Some.ensures.rise

pub returns-in-Some : goal.returns-in-Some
returns-in-Some c = λ s e.
    c.changes.ensures ∙ (ap (λ hs. not (hits_eq (answer (add_kept c.args.hit hs)) (answer hs))) c.as_slice.ensures
    ∙ ap (λ (x : KeptSense). not (hits_eq (answer (add_kept c.args.hit x.hits)) (answer x.hits)))
    (same_Some c.in-Some.sense.now s.sense (c.in-Some.ensures.there s e)))

pub returns-in-None : goal.returns-in-None
returns-in-None c = λ s e. absurd (none-some s.sense (c.in-None.ensures.there s e))
