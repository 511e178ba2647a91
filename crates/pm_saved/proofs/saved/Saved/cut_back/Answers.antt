use Rattle.std.proofs.Common.{ap, ◌∙◌}
use Rattle.pm_saved.specs.Spots.{step_at}
use Rattle.pm_saved.specs.Steps.{Kept, cut_to}
use Rattle.pm_saved.proofs.saved.Saved.cut_back.Goals as goal

pub invariant_of-self : goal.invariant_of-self
invariant_of-self c = c.cut_at.ensures.rise c.self.inside.next c.self.invariant

pub returns : goal.returns
returns c = λ s e.
    let i = c.self.inside in
    let there = ap (λ (k : Kept). step_at c.args.at.step c.args.at.sense k.steps) c.self.view_is ∙ e in
    ap (λ z. record { base = i.base; steps = z; used = i.next }) (c.cut_at.ensures.step s there)
    ∙ ap (cut_to s) c.self.view_is
