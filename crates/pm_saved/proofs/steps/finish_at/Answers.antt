use Rattle.std.proofs.Common.{arith, true, ap, ◌∙◌, subst, sym}
use Rattle.std.proofs.lemmas.Bool.{false≢true}
use Rattle.pm_saved.specs.declared.held.Held.{Held}
use Rattle.pm_saved.specs.declared.kept.KeptSense.{KeptSense}
use Rattle.pm_saved.specs.Inner.{Fits}
use Rattle.pm_saved.proofs.Numbers.{steps-set}
use Rattle.pm_saved.proofs.SpotLemmas.{at_changed, at_within}
use Rattle.pm_saved.proofs.steps.finish_at.Goals as goal

pub returns-in-Some-clause-step : goal.returns-in-Some-clause-step
returns-in-Some-clause-step c = λ s e.
    at_changed c.args.steps.now.items c.args.at.step c.args.at.sense (λ
    (x : KeptSense). record x { complete = true }) c.in-Some.held.now c.finish_in.new.held
    c.in-Some.ensures.value c.finish_in.ensures.step s e

pub returns-in-Some-clause-rise : goal.returns-in-Some-clause-rise
returns-in-Some-clause-rise c = λ m h.
    steps-set 0 c.args.steps.now.items m c.args.at.step c.in-Some.held.now c.finish_in.new.held h
    (λ k f. c.finish_in.ensures.fits k (subst (Fits k) (sym c.in-Some.ensures.value) f)) (c.finish_in.ensures.next
    ∙ ap (λ (x : Held). x.next) c.in-Some.ensures.value)

pub returns-in_default-clause-step : goal.returns-in_default-clause-step
returns-in_default-clause-step c = λ s e.
    absurd (false≢true (c.in_default.ensures.variant.1 (omega
    (arith, at_within c.args.steps.now.items c.args.at.step c.args.at.sense s e, c.args.steps.now.ok.0))))
