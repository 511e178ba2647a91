use Rattle.std.proofs.Common.{ℕ, ap, ◌∙◌}
use Rattle.pm_gen.specs.Draws.{state_after}
use Rattle.pm_gen.proofs.States.{after_more}
use Rattle.pm_gen.proofs.scenario.classes.Goals as goal

pub returns-clause-state : goal.returns-clause-state
returns-clause-state c =
    c.in_ok-marks.ensures.state ∙ ap (λ (s : ℕ). state_after s 4) c.in_ok-cells.ensures.state
    ∙ after_more c.args.draws.now.state 72 4
