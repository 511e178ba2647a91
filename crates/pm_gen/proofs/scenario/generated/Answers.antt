use Rattle.std.proofs.Common.{ℕ, ap, ◌∙◌}
use Rattle.pm_gen.specs.Draws.{state_after}
use Rattle.pm_gen.specs.Generated.{clps}
use Rattle.pm_gen.proofs.Steps.{drawn_parts}
use Rattle.pm_gen.proofs.scenario.generated.Goals as goal

pub returns : goal.returns
returns c =
    drawn_parts c.args.number c.clps.new.draws.state c.classes.new.draws.state c.in_ok-clps.clps c.in_ok-classes.classes
    c.in_ok-agents.agents (c.in_ok-clps.ensures.parts ∙ ap clps c.new-draws.ensures)
    (c.in_ok-clps.ensures.state ∙ ap (λ (s : ℕ). state_after s 4) c.new-draws.ensures)
    c.in_ok-classes.ensures.parts c.in_ok-classes.ensures.state c.in_ok-agents.ensures
