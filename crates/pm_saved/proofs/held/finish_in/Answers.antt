use Rattle.std.proofs.Common.{arith, refl, ap, sym, subst, true, ◌<◌, length}
use Rattle.std.proofs.lemmas.Bool.{false≢true}
use Rattle.pm_saved.specs.Inner.{HitsRise}
use Rattle.pm_saved.specs.declared.kept.KeptSense.{KeptSense}
use Rattle.pm_saved.proofs.Numbers.{hits-at, rise-set}
use Rattle.pm_saved.proofs.SpotLemmas.{sense-within, sense-written}
use Rattle.pm_saved.proofs.held.finish_in.Goals as goal

pub returns-in-Some-clause-step : goal.returns-in-Some-clause-step
returns-in-Some-clause-step c = λ i e.
    let h = c.args.held.now in
    sense-written h.stamp h.act h.senses.items c.args.at (λ
    (x : KeptSense). record x { complete = true }) c.in-Some.sense.now _ c.in-Some.ensures.value refl i e

pub returns-in-Some-clause-fits : goal.returns-in-Some-clause-fits
returns-in-Some-clause-fits c = λ n f.
    let h = c.args.held.now in
    let x = c.in-Some.sense.now in
    let lt : c.args.at < length h.senses.items = omega (arith, c.in-Some.ensures.variant.0 refl, h.senses.ok.0) in
    rise-set n h.senses.items h.next c.args.at x _ f (ap (λ (s : KeptSense). s.num.seq) c.in-Some.ensures.value)
    (subst (λ (s : KeptSense). HitsRise s.hits) (sym c.in-Some.ensures.value)
    (hits-at n h.senses.items h.next c.args.at x f lt))

pub returns-in_default-clause-step : goal.returns-in_default-clause-step
returns-in_default-clause-step c = λ i e.
    let h = c.args.held.now in
    absurd (false≢true (c.in_default.ensures.variant.1 (omega
    (arith, sense-within h.senses.items c.args.at i e, h.senses.ok.0))))
