use Rattle.std.proofs.Common.{◌∷◌, ◌++◌, ◌∙◌, [], ℕ, List, ap₂, sym, arith}
use Rattle.std.proofs.lemmas.List.FromFn.{map-range_with_len_more}
use Rattle.pm_plan.specs.Plans.{parents}
use Rattle.pm_plan.specs.Trees.{path_len}
use Rattle.pm_place.proofs.distances.distances_to.Goals as goal

pub loop-home-preserved : goal.loop-home-preserved
loop-home-preserved c =
    c.in_ok-push.ensures.ok
    ∙ ap₂ (λ (xs : List ℕ) (x : ℕ). xs ++ x ∷ []) c.loop-home.invariant c.path_len.ensures.value
    ∙ sym (map-range_with_len_more (λ home. path_len (parents c.args.plan.now.clps) home c.args.clp) 0 c.loop-home.home c.loop-home.home (omega arith))
