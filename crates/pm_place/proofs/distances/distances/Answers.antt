use Rattle.std.proofs.Common.{◌∷◌, ◌++◌, ◌∙◌, [], ℕ, List, ap₂, sym, arith}
use Rattle.std.proofs.lemmas.List.FromFn.{map-range_with_len_more}
use Rattle.pm_place.specs.Tallies.{distances_to}
use Rattle.pm_place.proofs.distances.distances.Goals as goal

pub loop-clp-preserved : goal.loop-clp-preserved
loop-clp-preserved c =
    c.in_ok-push.ensures.ok
    ∙ ap₂ (λ (xs : List (List ℕ)) (x : List ℕ). xs ++ x ∷ []) c.loop-clp.invariant c.in_ok-distances_to.ensures
    ∙ sym (map-range_with_len_more (distances_to c.args.plan.now) 0 c.loop-clp.clp c.loop-clp.clp (omega arith))
