-- Searches: where a test first fails in a list that it divides.
use Rattle.std.proofs.Common.{◌≡◌, refl, sym, ◌∙◌, ap, ℕ, zero, suc, ◌<◌, ◌≤◌, Bool, true, false, List, [], ◌∷◌}
use Rattle.std.proofs.Common.{length, get_or, arith, inl, inr}
use Rattle.std.proofs.lemmas.Bool.{cases_Bool, false≢true}
use Rattle.std.specs.List.{AllByRecursion}
use Rattle.std.specs.List.Sorted.{IsPartitionPoint, IsPartitionedBy}
use Rattle.pm_saved.specs.Searches.{passing}

pub each_weaker : {X : Type 0} (P Q : X → Type 0) → ((x : X) → P x → Q x) → (xs : List X) → AllByRecursion P xs
    → AllByRecursion Q xs
each_weaker P Q f [] h = h
each_weaker P Q f (x ∷ xs) h = (f x h.0, each_weaker P Q f xs h.1)

pub each_at : {X : Type 0} (P : X → Type 0) (xs : List X) → AllByRecursion P xs → (k : ℕ) (d : X) → k < length xs
    → P (get_or xs k d)
each_at P [] h k d lt = absurd (omega arith)
each_at P (x ∷ xs) h zero d lt = h.0
each_at P (x ∷ xs) h (suc k) d lt = each_at P xs h.1 k d (omega arith)

-- after an item that fails all fail
abbrev pub Parted : {X : Type 0} → (X → Bool) → List X → Type 0
Parted p [] = Unit {0}
Parted p (x ∷ xs) = (p x ≡ false → AllByRecursion (λ y. p y ≡ false) xs) × Parted p xs

module _ {X : Type 0} (p : X → Bool) where
  pub parted-is : (xs : List X) → Parted p xs → IsPartitionedBy p xs
  parted-is [] h i j d le lt e = absurd (omega arith)
  parted-is (x ∷ xs) h zero zero d le lt e = e
  parted-is (x ∷ xs) h zero (suc j) d le lt e = elim (cases_Bool (p x)) [
    | inl t ↦ t
    | inr f ↦ absurd (false≢true (sym (each_at (λ y. p y ≡ false) xs (h.0 f) j d (omega arith)) ∙ e))
  ]
  parted-is (x ∷ xs) h (suc i) zero d le lt e = absurd (omega arith)
  parted-is (x ∷ xs) h (suc i) (suc j) d le lt e = parted-is xs h.1 i j d (omega arith) (omega arith) e

  -- what `partition_point` finds is how many pass
  pub passing-found : (xs : List X) (i : ℕ) → i ≤ length xs
      → IsPartitionPoint (λ y. p y ≡ true) (λ y. p y ≡ false) xs i → i ≡ passing p xs
  passing-found [] i le h = omega arith
  passing-found (x ∷ xs) zero le h = let f : p x ≡ false = h.1 0 x (omega arith) (omega arith) in rw f refl
  passing-found (x ∷ xs) (suc i) le h =
      let t : p x ≡ true = h.0 0 x (omega arith) (omega arith) in
      let rest : i ≡ passing p xs = passing-found xs i (omega arith) (
        (λ k d lo hi. h.0 (suc k) d (omega arith) (omega arith)),
        (λ k d lo hi. h.1 (suc k) d (omega arith)
            (omega arith)),
      ) in
      rw t (ap (λ (k : ℕ). suc k) rest)
