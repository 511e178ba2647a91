-- Steps of the loops that go over the numbers of the communication processes.
use Rattle.std.proofs.Common.{ℕ, suc, ◌+◌, ◌-◌, ◌<◌, ◌≡◌, ◌∙◌, cond, List, [], ◌∷◌, ◌++◌, Option, ap, sym, refl, inl, inr, arith, append_assoc}
use Rattle.std.proofs.lemmas.Bool.{cases_Bool}
use Rattle.pm_plan.specs.Trees.{edge}
use Rattle.pm_plan.specs.declared.plan.Plan.{Plan}
use Rattle.pm_sim.specs.Worlds.{edges}
use Rattle.pm_core.specs.Links.{links_from, links_to_clps, senders}

one_edge : (ps : List (Option ℕ)) (c i n : ℕ)
    → edges ps c i (suc n) ≡ cond (edge ps c i) (i ∷ []) [] ++ edges ps c (suc i) n
one_edge ps c i n = elim (cases_Bool (edge ps c i)) [ inl e ↦ rw e refl | inr e ↦ rw e refl ]

pub edges_more : (ps : List (Option ℕ)) (c i n : ℕ) (xs : List ℕ) → i < n
    → (xs ++ cond (edge ps c i) (i ∷ []) []) ++ edges ps c (i + 1) (n - (i + 1)) ≡ xs ++ edges ps c i (n - i)
edges_more ps c i n xs lt =
    let e : n - i ≡ suc (n - (i + 1)) = omega arith in
    let f : i + 1 ≡ suc i = omega arith in
    append_assoc xs (cond (edge ps c i) (i ∷ []) []) (edges ps c (i + 1) (n - (i + 1)))
    ∙ ap (λ z. xs ++ z) (ap (λ k. cond (edge ps c i) (i ∷ []) [] ++ edges ps c k (n - (i + 1))) f
    ∙ (sym (one_edge ps c i (n - (i + 1))) ∙ ap (edges ps c i) (sym e)))

pub clps_more : (p : Plan) (c n : ℕ) (xs : List (ℕ × ℕ)) → c < n
    → (xs ++ links_from c (senders p c)) ++ links_to_clps p (c + 1) (n - (c + 1)) ≡ xs ++ links_to_clps p c (n - c)
clps_more p c n xs lt =
    let e : n - c ≡ suc (n - (c + 1)) = omega arith in
    let f : c + 1 ≡ suc c = omega arith in
    append_assoc xs (links_from c (senders p c)) (links_to_clps p (c + 1) (n - (c + 1)))
    ∙ ap (λ z. xs ++ z) (ap (λ k. links_from c (senders p c) ++ links_to_clps p k (n - (c + 1))) f
    ∙ ap (links_to_clps p c) (sym e))
