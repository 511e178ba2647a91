-- What stands at a place of a list.
use Rattle.std.proofs.Common.{◌≡◌, ℕ, zero, suc, ◌<◌, ◌⊎◌, inl, inr, ⊎_elim, List, [], ◌∷◌, ◌++◌, length, Option, Some, None, Bool, true, false, ◌≤◌, ◌+◌, get_or, set, sym, refl, ap, ◌∙◌, subst, arith}
use mathlib.Core.Option as maybe
use lib.ListN.{get_elem?}
use mathlib.Core.Logic.{dite}
use native.Mathlib.Decide.{ℕ_discrete}
use Rattle.std.proofs.lemmas.List.{get_or-set_other}

module _ {A : Type 0} where
  pub last_at : (l : List A) (a b : A) (k : ℕ) → get_elem? (l ++ a ∷ []) k ≡ maybe.some b
      → (get_elem? l k ≡ maybe.some b) ⊎ ((k ≡ length l) × (a ≡ b))
  last_at [] a b zero e = inr (refl, maybe.some-injective a b e)
  last_at [] a b (suc k) e = absurd (maybe.some-ne-none b (sym e))
  last_at (x ∷ xs) a b zero e = inl e
  last_at (x ∷ xs) a b (suc k) e = ⊎_elim (λ t. inl t) (λ t. inr (ap suc t.0, t.1)) (last_at xs a b k e)

  pub inside_of : (l : List A) (k : ℕ) (b : A) → get_elem? l k ≡ maybe.some b → k < length l
  inside_of [] k b e = absurd (maybe.some-ne-none b (sym e))
  inside_of (x ∷ xs) zero b e = omega arith
  inside_of (x ∷ xs) (suc k) b e = let h = inside_of xs k b e in omega arith

  abbrev or_else : A → Option A → A
  or_else d (Some x) = x
  or_else d None = d

  abbrev is_there : Option A → ℕ
  is_there (Some x) = 1
  is_there None = 0

  pub one_value : (o : maybe.Option (Option A)) (x y : A) → o ≡ maybe.some (Some x) → o ≡ maybe.some (Some y) → x ≡ y
  one_value o x y p q = ap (or_else x) (maybe.some-injective (Some x) (Some y) (sym p ∙ q))

  pub not_none : (o : maybe.Option (Option A)) (x : A) → o ≡ maybe.some (Some x) → o ≡ maybe.some None → ◌≡◌ {A = ℕ} 1 0
  not_none o x p q = ap is_there (maybe.some-injective (Some x) None (sym p ∙ q))

-- one place more is empty
set_off : (fs : List Bool) (i : ℕ) → get_or (set fs i false) i false ≡ false
set_off [] i = refl
set_off (f ∷ fs) zero = refl
set_off (f ∷ fs) (suc i) = set_off fs i

pub still_full : (fs gs : List Bool) (i n m : ℕ) → ((k : ℕ) → i ≤ k → k < n → get_or fs k false ≡ true)
    → gs ≡ set fs i false → m ≡ n → (k : ℕ) → i + 1 ≤ k → k < m → get_or gs k false ≡ true
still_full fs gs i n m full is same k past lt = ap (λ (hs : List Bool). get_or hs k false) is
    ∙ get_or-set_other fs i k false false (λ e. absurd (omega (arith, e))) ∙ full k (omega arith) (omega arith)

pub more_empty : (fs gs : List Bool) (i : ℕ) → ((k : ℕ) → k < i → get_or fs k false ≡ false) → gs ≡ set fs i false
    → (k : ℕ) → k < i + 1 → get_or gs k false ≡ false
more_empty fs gs i none is k lt = ap (λ (hs : List Bool). get_or hs k false) is ∙ dite (ℕ_discrete k i)
    (λ e. subst (λ (j : ℕ). get_or (set fs i false) j false ≡ false) (sym e) (set_off fs i))
    (λ ne. get_or-set_other fs i k false false ne ∙ none k (omega arith))
