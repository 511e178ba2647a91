use Rattle.std.proofs.Common.{ap, ◌∙◌, ◌++◌, List}
use Rattle.pm_message.specs.declared.Message.{Message}
use Rattle.pm_saved.specs.Spots.{step_at}
use Rattle.pm_saved.specs.Steps.{Kept, withdrawn}
use Rattle.pm_saved.specs.declared.kept.KeptStep.{KeptStep}
use Rattle.pm_saved.proofs.Failing.{on_ok}
use Rattle.pm_saved.proofs.SpotLemmas.{at_rest}
use Rattle.pm_saved.proofs.saved.Saved.withdrawn.Goals as goal

pub returns-clause-ok : goal.returns-clause-ok
returns-clause-ok c =
    let i = c.self.inside in
    on_ok c.withdraw_from.result _ _ (λ sent s e.
    sent ∙ ap (λ (z : List KeptStep). c.args.out.now ++ withdrawn z)
    (at_rest i.steps.items c.args.at.step c.args.at.sense s (ap (λ
    (k : Kept). step_at c.args.at.step c.args.at.sense k.steps) c.self.view_is ∙ e))) c.withdraw_from.ensures.ok
