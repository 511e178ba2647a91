use Rattle.std.proofs.Common.{◌≡◌, refl, arith, true, ap, ◌∙◌, subst, sym, ◌++◌, ◌∷◌, [], ◌-◌, ◌+◌}
use Rattle.pm_saved.specs.declared.held.Held.{Held}
use Rattle.pm_saved.specs.declared.kept.KeptStep.{KeptStep}
use Rattle.pm_saved.proofs.Failing.{on_err}
use Rattle.pm_saved.proofs.Numbers.{fits_more, keeps_last, nothing_rises, steps-last}
use Rattle.pm_saved.proofs.SpotLemmas.{at_same, last_changed, nothing_last}
use Rattle.pm_saved.proofs.steps.ask_last.Goals as goal

pub returns-in_ok-ask_in-clause-ok : goal.returns-in_ok-ask_in-clause-ok
returns-in_ok-ask_in-clause-ok c = λ front last e.
    let q = c.args.steps.now in
    last_changed q.items q.len q.ok.0 c.in-Some.last.now c.ask_in.new.held c.in-Some.ensures.value front last e (λ
    (s : KeptStep). record s { senses = s.senses ++ c.args.sense ∷ [] }) c.in_ok-ask_in.ensures.step

pub returns-in_ok-ask_in-clause-rise : goal.returns-in_ok-ask_in-clause-rise
returns-in_ok-ask_in-clause-rise c = λ m h le r.
    let q = c.args.steps.now in
    let x = c.in-Some.last.now in
    steps-last q.items q.len q.ok.0 m (c.args.sense.num.seq + 1) x c.ask_in.new.held c.in-Some.ensures.value h
    (λ i f under. fits_more i x c.ask_in.new.held c.args.sense (ap (λ
    (k : KeptStep). k.senses) c.in_ok-ask_in.ensures.step) c.in_ok-ask_in.ensures.next (omega
    (arith, under, le)) r f) c.in_ok-ask_in.ensures.next

pub returns-in_err-ask_in-clause-err : goal.returns-in_err-ask_in-clause-err
returns-in_err-ask_in-clause-err c =
    let q = c.args.steps.now in
    on_err c.from_residual.result _ (at_same q.items
    (q.len - 1) c.in-Some.last.now c.ask_in.new.held c.in-Some.ensures.value c.in_err-ask_in.ensures.same.0)

pub returns-in_err-ask_in-clause-kept : goal.returns-in_err-ask_in-clause-kept
returns-in_err-ask_in-clause-kept c = λ m h.
    let q = c.args.steps.now in
    let x = c.in-Some.last.now in
    on_err c.from_residual.result _
    (keeps_last q.items q.len q.ok.0 m x c.ask_in.new.held c.in-Some.ensures.value h
    c.in_err-ask_in.ensures.same.0 c.in_err-ask_in.ensures.same.1)

pub returns-in_default-clause-ok : goal.returns-in_default-clause-ok
returns-in_default-clause-ok c = λ front last e.
    let q = c.args.steps.now in absurd (nothing_last q.items q.len q.ok.0 c.in_default.ensures.variant.1 front last e)

pub returns-in_default-clause-rise : goal.returns-in_default-clause-rise
returns-in_default-clause-rise c = λ m h le r.
    let q = c.args.steps.now in nothing_rises q.items q.len q.ok.0 c.in_default.ensures.variant.1
    (c.args.sense.num.seq + 1)
