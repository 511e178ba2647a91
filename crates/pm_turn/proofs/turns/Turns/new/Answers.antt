use Rattle.std.proofs.Common.{rules, ◌≡◌, ℕ, List, length, map, replicate, Some, Option, ap, sym, subst, ◌∙◌}
use Rattle.pm_turn.specs.Rule.{Kept}
use Rattle.pm_turn.specs.Views.{opened}
use Rattle.atomic_table.specs.Table.{opening}
use Rattle.pm_turn.proofs.Steps.{opens}
use Rattle.pm_turn.proofs.turns.Turns.new.Goals as goal

pub new-requires-2 : goal.new-requires-2
new-requires-2 g c =
    let T : Type 0 = g.row.T.Denot in
    let marks : List T = c.of-about.result.value in
    let words : List ℕ = c.as_slice.result.now in
    let count : c.len-count.result ≡ length marks = search rules in
    let zeros : words ≡ replicate (length marks) 0 =
    c.as_slice.ensures.value ∙ c.in_ok-words.ensures.items_if_clones_equal (λ y e. e)
    ∙ ap (λ (n : ℕ). replicate n 0) count in
    let slots : c.in_ok-slots.slots.items ≡ map (λ (x : T). Some x) marks =
    c.in_ok-slots.ensures ∙ ap (λ (xs : List T). map (λ (x : T). Some x) xs) (c.into_vec.ensures
    ∙ sym c.of-about.ensures) in
    subst (λ (xs : List (Option T)). Kept g.T.Marked.fits marks (opening words xs (opened marks))) (sym slots)
    (opens g.T.Marked.fits marks g.met.T.Fit.same words zeros)
