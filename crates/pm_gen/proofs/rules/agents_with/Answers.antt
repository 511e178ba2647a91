use Rattle.std.proofs.Common.{ℕ, ◌*◌, ap, sym, ◌∙◌}
use Rattle.pm_gen.specs.Draws.{state_after}
use Rattle.pm_gen.specs.Generated.{agent}
use Rattle.pm_gen.proofs.States.{after_none, after_three}
use Rattle.pm_gen.proofs.Steps.{one_more}
use Rattle.pm_gen.proofs.rules.agents_with.Goals as goal

pub loop-k-init : goal.loop-k-init
loop-k-init c = record { parts = c.new-agents.ensures; state = sym (after_none c.args.draws.now.state) }

pub loop-k-preserved : goal.loop-k-preserved
loop-k-preserved c =
    let s : ℕ = c.args.draws.now.state in
    let k : ℕ = c.loop-k.k in
    record {
      parts = c.in_ok-push.ensures.ok
          ∙ one_more (λ (i : ℕ). agent (state_after s (3 * i)) i) k c.loop-k.agents c.in_ok-agent.field-0
          c.loop-k.invariant.parts (c.in_ok-agent.ensures.part ∙ ap (λ (n : ℕ). agent n k) c.loop-k.invariant.state);
      state = c.in_ok-agent.ensures.state ∙ ap (λ (n : ℕ). state_after n 3) c.loop-k.invariant.state ∙ after_three s k;
    }
