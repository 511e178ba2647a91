-- What a list without its last items becomes when one of them is moved.
use Rattle.std.proofs.Common.{◌≡◌, ◌-◌, List, [], ◌∷◌, ◌++◌, length, Option, Some, None, sym, ap, ◌∙◌, append_assoc, subst, length-append, arith}
use Rattle.std.specs.Prelude.{option_to_list}
use Rattle.std.proofs.lemmas.List.{take_at}
use Rattle.pm_links.specs.Waits.{but_last, EndsIn}

module _ {A : Type 0} where
  pub front_of : (p r : List A) → but_last (length r) (p ++ r) ≡ p
  front_of p r = take_at p r (length (p ++ r) - length r) (omega (arith, length-append p r))

  pub one_more : (all d : List A) (x : A) → all ≡ but_last (length (x ∷ d)) all ++ x ∷ d
      → but_last (length d) all ≡ but_last (length (x ∷ d)) all ++ x ∷ []
  one_more all d x e =
      let p = but_last (length (x ∷ d)) all in
      let e' : all ≡ (p ++ x ∷ []) ++ d = e ∙ sym (append_assoc p (x ∷ []) d) in
      ap (but_last (length d)) e' ∙ front_of (p ++ x ∷ []) d

  pub still_kept : (o : Option A) (all d d' : List A) → d ≡ option_to_list o ++ d' → EndsIn all d → EndsIn all d'
  still_kept None all d d' e k = subst (EndsIn all) e k
  still_kept (Some x) all d d' e k =
      let p = but_last (length (x ∷ d')) all in
      let k' : all ≡ p ++ x ∷ d' = subst (EndsIn all) e k in
      k' ∙ sym (append_assoc p (x ∷ []) d') ∙ ap (λ (z : List A). z ++ d') (sym (one_more all d' x k'))
