use Rattle.std.proofs.Common.{refl, arith, true, ap, ◌∙◌, subst, sym, ◌<◌, length}
use Rattle.std.proofs.lemmas.Bool.{false≢true}
use Rattle.pm_saved.specs.Inner.{Fits}
use Rattle.pm_saved.specs.Senses.{add_kept}
use Rattle.pm_saved.specs.declared.held.Held.{Held}
use Rattle.pm_saved.specs.declared.kept.KeptSense.{KeptSense}
use Rattle.pm_saved.proofs.Failing.{on_err}
use Rattle.pm_saved.proofs.Numbers.{steps-fit, steps-set}
use Rattle.pm_saved.proofs.SpotLemmas.{at_changed, at_same, at_within}
use Rattle.pm_saved.proofs.steps.keep_at.Goals as goal

pub keep_in-requires : goal.keep_in-requires
keep_in-requires c =
    let hs = c.args.steps.now.items in
    let lt : c.args.at.step < length hs = omega (arith, c.in-Some.ensures.variant.0 refl, c.args.steps.now.ok.0) in
    let k = steps-fit 0 hs c.requires.0 c.args.at.step c.in-Some.held.now c.requires.1 lt in
    (k.0, subst (Fits k.0) (sym c.in-Some.ensures.value) k.1)

pub returns-in_ok-keep_in-clause-step : goal.returns-in_ok-keep_in-clause-step
returns-in_ok-keep_in-clause-step c = λ s e.
    at_changed c.args.steps.now.items c.args.at.step c.args.at.sense (λ
    (x : KeptSense). record x { hits = add_kept c.args.hit x.hits }) c.in-Some.held.now c.keep_in.new.held
    c.in-Some.ensures.value c.in_ok-keep_in.ensures.step s e

pub returns-in_ok-keep_in-clause-rise : goal.returns-in_ok-keep_in-clause-rise
returns-in_ok-keep_in-clause-rise c = λ m h.
    steps-set 0 c.args.steps.now.items m c.args.at.step c.in-Some.held.now c.keep_in.new.held h
    (λ k f. c.in_ok-keep_in.ensures.fits k (subst (Fits k) (sym c.in-Some.ensures.value) f))
    (c.in_ok-keep_in.ensures.next ∙ ap (λ (x : Held). x.next) c.in-Some.ensures.value)

pub returns-in_err-keep_in-clause-same : goal.returns-in_err-keep_in-clause-same
returns-in_err-keep_in-clause-same c =
    on_err c.from_residual.result _
    (at_same c.args.steps.now.items c.args.at.step c.in-Some.held.now c.keep_in.new.held c.in-Some.ensures.value
    c.in_err-keep_in.ensures.same)

pub returns-in_err-keep_in-clause-rise : goal.returns-in_err-keep_in-clause-rise
returns-in_err-keep_in-clause-rise c = λ m h.
    steps-set 0 c.args.steps.now.items m c.args.at.step c.in-Some.held.now c.keep_in.new.held h
    (λ k f. c.in_err-keep_in.ensures.fits k (subst (Fits k) (sym c.in-Some.ensures.value) f))
    (c.in_err-keep_in.ensures.next ∙ ap (λ (x : Held). x.next) c.in-Some.ensures.value)

pub returns-in_default-clause-step : goal.returns-in_default-clause-step
returns-in_default-clause-step c = λ s e.
    absurd (false≢true (c.in_default.ensures.variant.1 (omega
    (arith, at_within c.args.steps.now.items c.args.at.step c.args.at.sense s e, c.args.steps.now.ok.0))))
