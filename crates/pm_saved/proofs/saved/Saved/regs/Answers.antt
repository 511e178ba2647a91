use Rattle.std.proofs.Common.{◌≡◌, ap, ◌∙◌, ◌++◌, ◌∷◌, [], ◌-◌, ℕ}
use Rattle.pm_saved.specs.Inner.{steps_of}
use Rattle.pm_saved.specs.Steps.{Kept, regs_after}
use Rattle.pm_saved.proofs.SpotLemmas.{last_front}
use Rattle.pm_saved.proofs.saved.Saved.regs.Goals as goal

pub returns-clause-step : goal.returns-clause-step
returns-clause-step c = λ front last e.
    let i = c.self.inside in
    let there : steps_of i.steps.items ≡ front ++ last ∷ [] = ap (λ (k : Kept). k.steps) c.self.view_is ∙ e in
    c.last_regs.ensures
    ∙ (ap (regs_after i.base) (last_front i.steps.items i.steps.len c.saturating_sub.result i.steps.ok.0
    (c.saturating_sub.ensures ∙ ap (λ (n : ℕ). n - 1) c.len.ensures) front last there)
    ∙ ap (λ (k : Kept). regs_after k.base front) c.self.view_is)
