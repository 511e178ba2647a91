use Rattle.std.proofs.Common.{refl, arith, true, ap, ◌∙◌, subst, sym, ◌<◌, length}
use Rattle.std.proofs.lemmas.Bool.{false≢true}
use Rattle.pm_saved.specs.Inner.{HitsRise}
use Rattle.pm_saved.specs.Senses.{add_kept}
use Rattle.pm_saved.specs.declared.kept.KeptSense.{KeptSense}
use Rattle.pm_saved.proofs.Numbers.{hits-at, rise-set}
use Rattle.pm_saved.proofs.SpotLemmas.{sense-within, sense-written}
use Rattle.pm_saved.proofs.held.keep_in.Goals as goal

pub keep-requires : goal.keep-requires
keep-requires c =
    let h = c.args.held.now in
    let lt : c.args.at < length h.senses.items = omega (arith, c.in-Some.ensures.variant.0 refl, h.senses.ok.0) in
    subst (λ (s : KeptSense). HitsRise s.hits) (sym c.in-Some.ensures.value)
    (hits-at c.requires.0 h.senses.items h.next c.args.at c.in-Some.sense.now c.requires.1 lt)

pub returns-in_ok-keep-clause-step : goal.returns-in_ok-keep-clause-step
returns-in_ok-keep-clause-step c = λ i e.
    let h = c.args.held.now in
    let x = c.in-Some.sense.now in
    sense-written h.stamp h.act h.senses.items c.args.at (λ
    (s : KeptSense). record s { hits = add_kept c.args.hit s.hits }) x _ c.in-Some.ensures.value (ap
    (λ hits. record x { hits = hits }) c.in_ok-keep.ensures.ok) i e

pub returns-in_ok-keep-clause-fits : goal.returns-in_ok-keep-clause-fits
returns-in_ok-keep-clause-fits c = λ n f.
    let h = c.args.held.now in
    rise-set n h.senses.items h.next c.args.at c.in-Some.sense.now _ f (ap (λ
    (s : KeptSense). s.num.seq) c.in-Some.ensures.value) c.in_ok-keep.ensures.rise

pub returns-in_default-clause-step : goal.returns-in_default-clause-step
returns-in_default-clause-step c = λ i e.
    let h = c.args.held.now in
    absurd (false≢true (c.in_default.ensures.variant.1 (omega
    (arith, sense-within h.senses.items c.args.at i e, h.senses.ok.0))))
