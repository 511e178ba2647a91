-- A walk up the tree that looks for a CLP.
use Rattle.std.proofs.Common.{◌≡◌, ℕ, ◌+◌, ◌<◌, ◌≤◌, ◌==◌, true, false, cond, List, length, refl, arith, ap, sym, ◌∙◌, Option, Some, None}
use Rattle.std.specs.Prelude.{unwrap_or}
use Rattle.std.proofs.lemmas.Bool.Decides.{nat_tests}
use Rattle.pm_plan.specs.Trees.{parent, ups, below_on, hop, hop_of, path_len}
use Rattle.pm_plan.proofs.Rooted.{Rooted, up_root, up_step, below_step}
use Rattle.pm_plan.proofs.Paths.{path_len_far, far_most}

-- on the way up from `to`, what is below c is also on the way up from `below`
pub Reaches : List (Option ℕ) → ℕ → ℕ → ℕ → Type 0
Reaches ps c to below = below_on c (ups (length ps) ps (Some to)) ≡ below_on c (ups (length ps) ps (Some below))

-- c and how many are above it
pub height : List (Option ℕ) → ℕ → ℕ
height ps c = length (ups (length ps) ps (Some c))

pub reach_begin : (ps : List (Option ℕ)) (c to : ℕ) → Reaches ps c to to
unfolding Reaches
reach_begin ps c to = refl

self_num : (a : ℕ) → (a == a) ≡ true
self_num a = grind (arith, nat_tests)

equal_num : (a b : ℕ) → a ≡ b → (a == b) ≡ true
equal_num a b e = ap (λ x. a == x) (sym e) ∙ self_num a

apart_num : (a b : ℕ) → (a ≡ b → ⊥) → (a == b) ≡ false
apart_num a b ne = grind (arith, nat_tests, ne)

module _ (ps : List (Option ℕ)) (ok : Rooted ps) where
  pub reach_more : (c to below above : ℕ) → parent ps below ≡ Some above → (above ≡ c → ⊥) → Reaches ps c to below → Reaches ps c to above
  unfolding Reaches
  reach_more c to below above e ne r = r ∙ (below_step ps ok c below above e ∙ ap (λ b. cond b (Some below) (below_on c (ups (length ps) ps (Some above)))) (apart_num above c ne))

  pub reach_found : (c to below above : ℕ) → parent ps below ≡ Some above → above ≡ c → Reaches ps c to below → below ≡ hop ps c to
  unfolding Reaches
  reach_found c to below above e f r =
      let g : below_on c (ups (length ps) ps (Some to)) ≡ Some below = r ∙ (below_step ps ok c below above e ∙ ap (λ b. cond b (Some below) (below_on c (ups (length ps) ps (Some above)))) (equal_num above c f)) in
      sym (ap (λ o. hop_of ps c o (parent ps c)) g)

  pub reach_root : (c to below : ℕ) → parent ps below ≡ None → Reaches ps c to below → unwrap_or (parent ps c) c ≡ hop ps c to
  unfolding Reaches
  reach_root c to below e r =
      let g : below_on c (ups (length ps) ps (Some to)) ≡ None = r ∙ ap (below_on c) (up_root ps ok below e) in
      up (parent ps c) ∙ sym (ap (λ o. hop_of ps c o (parent ps c)) g)
    where
      up : (o : Option ℕ) → unwrap_or o c ≡ hop_of ps c None o
      up None = refl
      up (Some d) = refl

  pub height_less : (below above : ℕ) → parent ps below ≡ Some above → height ps above < height ps below
  unfolding height
  height_less below above e = (let s = ap length (up_step ps ok below above e) in omega (arith, s))

  pub len_most : (c d : ℕ) → c < length ps → d < length ps → path_len ps c d ≤ length ps + length ps
  len_most c d lc ld = (let a = path_len_far ps ok c d lc ld in let b = far_most ps ok c d in omega (arith, a, b))
