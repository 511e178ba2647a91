-- How one step moves a list of stations.
use Rattle.std.proofs.Common.{◌≡◌, ℕ, zero, suc, ◌+◌, ◌<◌, ◌≢◌, List, [], ◌∷◌, length, get_or, set, sym, refl, ap, ◌∙◌, subst, arith, length-set, get_or-set_same}
use mathlib.Core.Logic.{dite}
use native.Mathlib.Decide.{ℕ_discrete}
use Rattle.pm_workers.specs.Epochs.{Reached}

module _ {S : Type 0} (R : ℕ → S → S → Type 0) where
  set_apart : (ys : List S) (k i : ℕ) (y d : S) → i ≢ k → get_or (set ys k y) i d ≡ get_or ys i d
  set_apart [] k i y d n = refl
  set_apart (x ∷ xs) zero zero y d n = absurd (n refl)
  set_apart (x ∷ xs) zero (suc i) y d n = refl
  set_apart (x ∷ xs) (suc k) zero y d n = refl
  set_apart (x ∷ xs) (suc k) (suc i) y d n = set_apart xs k i y d (λ e. n (ap suc e))

  any_else : (ys : List S) (k : ℕ) (d e : S) → k < length ys → get_or ys k d ≡ get_or ys k e
  any_else [] k d e h = absurd (omega arith)
  any_else (x ∷ xs) zero d e h = refl
  any_else (x ∷ xs) (suc k) d e h = any_else xs k d e (omega arith)

  -- the place k changes as R says
  pub steps : (k : ℕ) (xs ys : List S) (y e : S) → Reached R k xs ys → k < length ys → R k (get_or ys k e) y
      → Reached R (k + 1) xs (set ys k y)
  steps k xs ys y e so within moves =
      let moves' : (d : S) → R k (get_or ys k d) y =
      λ d. subst (λ (z : S). R k z y) (any_else ys k e d within) moves in (
        length-set ys k y ∙ so.0,
        λ i d h. (
          λ lt. dite (ℕ_discrete i k)
              (λ is. subst (λ (j : ℕ). R j (get_or xs j d) (get_or (set ys k y) j d)) (sym is)
              (subst (λ (z : S). R k (get_or xs k d) z) (sym (get_or-set_same ys k y d within))
              (subst (λ (z : S). R k z y) ((so.1 k d (omega (arith, so.0))).1 (omega arith)) (moves' d))))
              (λ ne. subst (λ (z : S). R i (get_or xs i d) z) (sym (set_apart ys k i y d ne))
              ((so.1 i d h).0 (omega arith))),
          λ le. set_apart ys k i y d (λ e. absurd (omega arith)) ∙ (so.1 i d h).1 (omega arith),
        ),
      )
