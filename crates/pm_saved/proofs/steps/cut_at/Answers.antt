use Rattle.std.proofs.Common.{◌≡◌, ap, ◌∙◌, subst, sym, List, ◌+◌, take, Some, []}
use Rattle.std.proofs.lemmas.List.{take-map}
use Rattle.pm_saved.specs.Inner.{NumbersRise, step_of, steps_of}
use Rattle.pm_saved.specs.Spots.{step_at}
use Rattle.pm_saved.specs.declared.held.Held.{Held}
use Rattle.pm_saved.specs.declared.kept.KeptStep.{KeptStep}
use Rattle.pm_saved.proofs.Numbers.{steps-take}
use Rattle.pm_saved.proofs.SpotLemmas.{step_at-take}
use Rattle.pm_saved.proofs.steps.cut_at.Goals as goal

pub returns-clause-step : goal.returns-clause-step
returns-clause-step c = λ s e.
    let hs = c.args.steps.now.items in
    let i = c.args.at.step in
    let first : steps_of c.keep_first.new.steps.items
    ≡ take (i + 1) (steps_of hs) = ap steps_of c.keep_first.ensures ∙ sym (take-map step_of (i + 1) hs) in
    c.cut_step.ensures.step (record s { rest = [] }) (ap (step_at i c.args.at.sense) first
    ∙ step_at-take i c.args.at.sense (steps_of hs) s e)

pub returns-clause-rise : goal.returns-clause-rise
returns-clause-rise c = λ m h.
    c.cut_step.ensures.rise m (subst (λ (z : List Held). NumbersRise 0 z m) (sym c.keep_first.ensures)
    (steps-take 0 c.args.steps.now.items m (c.args.at.step + 1) h))
