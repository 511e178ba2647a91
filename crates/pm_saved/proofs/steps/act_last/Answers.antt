use Rattle.std.proofs.Common.{◌≡◌, true, ap, ◌∙◌, sym, Some}
use Rattle.pm_saved.specs.declared.kept.KeptStep.{KeptStep}
use Rattle.pm_saved.proofs.Numbers.{ends_last}
use Rattle.pm_saved.proofs.SpotLemmas.{last_changed, nothing_last}
use Rattle.pm_saved.proofs.steps.act_last.Goals as goal

pub returns-in-Some-clause-step : goal.returns-in-Some-clause-step
returns-in-Some-clause-step c = λ front last e.
    let q = c.args.steps.now in
    last_changed q.items q.len q.ok.0 c.in-Some.last.now c.end_in.new.held c.in-Some.ensures.value front last e (λ
    (s : KeptStep). record s { act = Some c.args.act }) c.end_in.ensures.step

pub returns-in-Some-clause-rise : goal.returns-in-Some-clause-rise
returns-in-Some-clause-rise c = λ m h.
    let q = c.args.steps.now in
    ends_last q.items q.len q.ok.0 m c.in-Some.last.now c.end_in.new.held c.in-Some.ensures.value h (ap (λ
    (k : KeptStep). k.senses) c.end_in.ensures.step) c.end_in.ensures.next

pub returns-in_default-clause-step : goal.returns-in_default-clause-step
returns-in_default-clause-step c = λ front last e.
    let q = c.args.steps.now in absurd (nothing_last q.items q.len q.ok.0 c.in_default.ensures.variant.1 front last e)
