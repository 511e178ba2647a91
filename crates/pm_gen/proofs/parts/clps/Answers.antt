use Rattle.std.proofs.Common.{ℕ, ◌+◌, List, [], ◌∷◌, ◌++◌, map, refl, rules, ap, sym, ◌∙◌}
use Rattle.std.specs.List.{range_with_len}
use Rattle.pm_plan.specs.declared.parts.ClpPart.{ClpPart}
use Rattle.pm_gen.specs.Draws.{next_state, state_after}
use Rattle.pm_gen.specs.Generated.{child, root}
use Rattle.pm_gen.proofs.States.{after_none, after_one}
use Rattle.pm_gen.proofs.Steps.{one_more}
use Rattle.pm_gen.proofs.parts.clps.Goals as goal

pub loop-k-init : goal.loop-k-init
loop-k-init c = record { parts = search rules; state = sym (after_none c.args.draws.now.state) }

pub loop-k-preserved : goal.loop-k-preserved
loop-k-preserved c =
    let s : ℕ = c.args.draws.now.state in
    let k : ℕ = c.loop-k.k in
    let f = λ (i : ℕ). child (state_after s i) (i + 1) in
    let new : ClpPart = c.in_ok-child.field-0 in
    record {
      parts = c.in_ok-push-2.ensures.ok ∙ ap (λ (xs : List ClpPart). xs ++ new ∷ []) c.loop-k.invariant.parts
          ∙ ap (λ (xs : List ClpPart). root ∷ xs) (one_more f k (map f (range_with_len 0 k)) new refl
          (c.in_ok-child.ensures.part ∙ ap (λ (n : ℕ). child n (k + 1)) c.loop-k.invariant.state));
      state = c.in_ok-child.ensures.state ∙ ap next_state c.loop-k.invariant.state ∙ sym (after_one s k);
    }
