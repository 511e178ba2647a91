use Rattle.std.proofs.Common.{refl, ◌≡◌, arith, true, ap, ◌∙◌, subst, sym, ◌<◌, length}
use Rattle.std.proofs.lemmas.Bool.{false≢true}
use Rattle.pm_saved.specs.Inner.{Fits}
use Rattle.pm_saved.proofs.Numbers.{lent_rise, steps-fit}
use Rattle.pm_saved.proofs.SpotLemmas.{at_sense, at_within}
use Rattle.pm_saved.proofs.steps.sense_in.Goals as goal

pub returns-in-Some-clause-there : goal.returns-in-Some-clause-there
returns-in-Some-clause-there c = λ s e.
    c.sense_of.ensures ∙ at_sense c.args.steps.now.items c.args.at.step c.args.at.sense c.in-Some.held.now
    c.in-Some.ensures.lookup s e

pub returns-in-Some-clause-rise : goal.returns-in-Some-clause-rise
returns-in-Some-clause-rise c =
    let q = c.args.steps.now in
    let x = c.in-Some.held.now in
    let lt : c.args.at.step < length q.items = omega (arith, c.in-Some.ensures.variant.0 refl, q.ok.0) in
    let k = steps-fit 0 q.items c.requires.0 c.args.at.step x c.requires.1 lt in
    lent_rise k.0 x.senses.items x.next c.args.at.sense _ (subst (Fits k.0)
    (sym c.in-Some.ensures.lookup) k.1) c.sense_of.ensures

pub returns-in-None-clause-there : goal.returns-in-None-clause-there
returns-in-None-clause-there c = λ s e.
    let q = c.args.steps.now in
    absurd (false≢true (c.in-None.ensures.variant.1 (omega
    (arith, at_within q.items c.args.at.step c.args.at.sense s e, q.ok.0))))
