use Rattle.std.proofs.Common.{ℕ, ap, sym, ◌∙◌}
use Rattle.pm_gen.specs.Draws.{next_state, state_after}
use Rattle.pm_gen.specs.Generated.{mark}
use Rattle.pm_gen.proofs.States.{after_none, after_one}
use Rattle.pm_gen.proofs.Steps.{one_more}
use Rattle.pm_gen.proofs.parts.marks.Goals as goal

pub loop-k-init : goal.loop-k-init
loop-k-init c = record { parts = c.new-marks.ensures; state = sym (after_none c.args.draws.now.state) }

pub loop-k-preserved : goal.loop-k-preserved
loop-k-preserved c =
    let s : ℕ = c.args.draws.now.state in
    let k : ℕ = c.loop-k.k in
    record {
      parts = c.in_ok-push.ensures.ok
          ∙ one_more (λ (i : ℕ). mark (state_after s i) i) k c.loop-k.marks c.in_ok-mark.field-0
          c.loop-k.invariant.parts (c.in_ok-mark.ensures.part ∙ ap (λ (n : ℕ). mark n k) c.loop-k.invariant.state);
      state = c.in_ok-mark.ensures.state ∙ ap next_state c.loop-k.invariant.state ∙ sym (after_one s k);
    }
