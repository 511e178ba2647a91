-- The first row of each number, and the row that a number names.
use Rattle.std.proofs.Common.{◌≡◌, ℕ, ◌+◌, ◌<◌, suc, inl, inr, Bool, true, false, cond, not, ◌||◌, List, [], ◌∷◌, ◌++◌, length, get_or, take, filter, refl, arith, append-nil, ap, ap₂, sym, ◌∙◌}
use Rattle.std.specs.List.{AllByRecursion}
use Rattle.std.proofs.lemmas.Bool.{cases_Bool, or_parts}
use Rattle.std.proofs.lemmas.List.{take_more}
use Rattle.std.proofs.lemmas.List.Elements.{filter-append}
use Rattle.pm_base.specs.declared.stamp.Num.{Num}
use Rattle.pm_periods.specs.Places.{number_place}
use Rattle.pm_base.specs.Stamps.{num_eq}
use Rattle.pm_periods.specs.Rows.{AreDistinct, IsInOrder, add_rows, differs_from, first_rows, has_num, key_lt, rows_in_order}
use Rattle.pm_periods.specs.declared.rows.RowKey.{RowKey}
use Rattle.pm_periods.proofs.Keys.{num_eq-flip, num_eq-same}
use Rattle.pm_periods.proofs.Ordered.{add_rows-in_order, each_filter, filter_distinct, filter_in_order}

module _ {X : Type 0} (key : X → RowKey) where
  has_filter_other : (n : Num) (y : X) (zs : List X) → num_eq n (key y).num ≡ false → has_num key n (filter (differs_from key y) zs) ≡ has_num key n zs
  has_filter_other n y [] e = refl
  has_filter_other n y (z ∷ zs) e = (let again = has_filter_other n y zs e in elim (cases_Bool (num_eq (key z).num (key y).num)) [
    | inl f ↦ (let g : num_eq n (key z).num ≡ false = ap (num_eq n) (num_eq-same (key z).num (key y).num f) ∙ e in rw (f, g) again)
    | inr f ↦ rw f (ap (λ b. num_eq n (key z).num || b) again)
  ])

  pub has_first_rows : (n : Num) (xs : List X) → has_num key n (first_rows key xs) ≡ has_num key n xs
  has_first_rows n [] = refl
  has_first_rows n (y ∷ ys) = (let again = has_first_rows n ys in elim (cases_Bool (num_eq n (key y).num)) [
    | inl e ↦ rw e refl
    | inr e ↦ rw e (has_filter_other n y (first_rows key ys) e ∙ again)
  ])

  first_last : (c b : Bool) (y x : X) (firsts more : List X) → differs_from key y x ≡ not c → more ≡ cond b firsts (firsts ++ x ∷ [])
      → y ∷ filter (differs_from key y) more ≡ cond (c || b) (y ∷ filter (differs_from key y) firsts) ((y ∷ filter (differs_from key y) firsts) ++ x ∷ [])
  first_last true true y x firsts more d e = ap (λ z. y ∷ filter (differs_from key y) z) e
  first_last true false y x firsts more d e = ap (λ z. y ∷ filter (differs_from key y) z) e ∙ ap (λ z. y ∷ z) (filter-append (differs_from key y) firsts (x ∷ []) ∙ (ap (λ b. filter (differs_from key y) firsts ++ cond b (x ∷ []) []) d ∙ append-nil (filter (differs_from key y) firsts)))
  first_last false true y x firsts more d e = ap (λ z. y ∷ filter (differs_from key y) z) e
  first_last false false y x firsts more d e = ap (λ z. y ∷ filter (differs_from key y) z) e ∙ ap (λ z. y ∷ z) (filter-append (differs_from key y) firsts (x ∷ []) ∙ ap (λ b. filter (differs_from key y) firsts ++ cond b (x ∷ []) []) d)

  num_eq-swap : (m n : Num) → num_eq m n ≡ num_eq n m
  num_eq-swap m n = by (num_eq m n) (num_eq n m) (num_eq-flip m n) (num_eq-flip n m)
    where
      by : (a b : Bool) → (a ≡ false → b ≡ false) → (b ≡ false → a ≡ false) → a ≡ b
      by true true f g = refl
      by true false f g = g refl
      by false true f g = sym (f refl)
      by false false f g = refl

  -- a row behind those that were looked at stays where no row of its number stands
  pub first_rows-snoc : (xs : List X) (x : X) → first_rows key (xs ++ x ∷ []) ≡ cond (has_num key (key x).num xs) (first_rows key xs) (first_rows key xs ++ x ∷ [])
  first_rows-snoc [] x = refl
  first_rows-snoc (y ∷ ys) x = first_last (num_eq (key x).num (key y).num) (has_num key (key x).num ys) y x (first_rows key ys) (first_rows key (ys ++ x ∷ [])) refl (first_rows-snoc ys x)

  -- one more row looked at
  pub first_rows-more : (xs : List X) (i : ℕ) (x : X) (first next : List X) (b : Bool) → i < length xs → x ≡ get_or xs i x → first ≡ first_rows key (take i xs) → b ≡ has_num key (key x).num first → next ≡ cond b first (first ++ x ∷ []) → next ≡ first_rows key (take (i + 1) xs)
  first_rows-more xs i x first next b lt is so_far told e =
      let known : b ≡ has_num key (key x).num (take i xs) = told ∙ (ap (has_num key (key x).num) so_far ∙ has_first_rows (key x).num (take i xs)) in
      let seen : take (i + 1) xs ≡ take i xs ++ x ∷ [] = take_more xs i x lt ∙ ap (λ z. take i xs ++ z ∷ []) (sym is) in
      e ∙ (ap₂ (λ c f. cond c f (f ++ x ∷ [])) known so_far ∙ (sym (first_rows-snoc (take i xs) x) ∙ ap (first_rows key) (sym seen)))

  each_first : (Q : X → Type 0) (xs : List X) → AllByRecursion Q xs → AllByRecursion Q (first_rows key xs)
  each_first Q [] a = tt
  each_first Q (x ∷ xs) a = (a.0, each_filter Q (differs_from key x) (first_rows key xs) (each_first Q xs a.1))

  first_rows-in_order : (xs : List X) → IsInOrder key xs → IsInOrder key (first_rows key xs)
  first_rows-in_order [] o = tt
  first_rows-in_order (x ∷ xs) o =
      let again = filter_in_order key (differs_from key x) (first_rows key xs) (first_rows-in_order xs o.1) in
      (each_filter (λ y. key_lt (key y) (key x) ≡ false) (differs_from key x) (first_rows key xs) (each_first (λ y. key_lt (key y) (key x) ≡ false) xs o.0), again)

  none_left : (x : X) (zs : List X) → has_num key (key x).num (filter (differs_from key x) zs) ≡ false
  none_left x [] = refl
  none_left x (z ∷ zs) = (let again = none_left x zs in elim (cases_Bool (num_eq (key z).num (key x).num)) [
    | inl e ↦ rw e again
    | inr e ↦ (let f = num_eq-flip (key z).num (key x).num e in rw e (ap₂ (λ a b. a || b) f again))
  ])

  first_rows-distinct : (xs : List X) → AreDistinct key (first_rows key xs)
  first_rows-distinct [] = tt
  first_rows-distinct (x ∷ xs) = (none_left x (first_rows key xs), filter_distinct key (differs_from key x) (first_rows key xs) (first_rows-distinct xs))

  -- any rows brought into order are in order, each number once
  pub rows_in_order-in_order : (xs : List X) → IsInOrder key (rows_in_order key xs)
  rows_in_order-in_order xs = first_rows-in_order (add_rows key [] xs) (add_rows-in_order key [] xs tt)

  pub rows_in_order-distinct : (xs : List X) → AreDistinct key (rows_in_order key xs)
  rows_in_order-distinct xs = first_rows-distinct (add_rows key [] xs)

  pub each_apart : (n : Num) (xs : List X) → has_num key n xs ≡ false → AllByRecursion (λ x. num_eq n (key x).num ≡ false) xs
  each_apart n [] e = tt
  each_apart n (x ∷ xs) e = (let o = or_parts (num_eq n (key x).num) (has_num key n xs) e in (o.0, each_apart n xs o.1))

  -- the row that a number names is the only one of that number
  abbrev pub Named : Num → X → X → Type 0
  Named n r x = num_eq n (key x).num ≡ true → x ≡ r

  no_other : (n : Num) (r : X) (xs : List X) → has_num key n xs ≡ false → AllByRecursion (Named n r) xs
  no_other n r [] e = tt
  no_other n r (x ∷ xs) e = (let o = or_parts (num_eq n (key x).num) (has_num key n xs) e in let f = o.0 in ((λ h. absurd cc), no_other n r xs o.1))

  pub only_named : (n : Num) (xs : List X) (d : X) → AreDistinct key xs → number_place key n xs < length xs → AllByRecursion (Named n (get_or xs (number_place key n xs) d)) xs
  only_named n [] d u lt = tt
  only_named n (x ∷ xs) d u lt = by (num_eq n (key x).num) refl lt (λ h. only_named n xs d u.1 h)
    where
      by : (b : Bool) → num_eq n (key x).num ≡ b → cond b 0 (suc (number_place key n xs)) < length (x ∷ xs) → (number_place key n xs < length xs → AllByRecursion (Named n (get_or xs (number_place key n xs) d)) xs)
          → AllByRecursion (Named n (get_or (x ∷ xs) (cond b 0 (suc (number_place key n xs))) d)) (x ∷ xs)
      by true e lt' again = ((λ _. refl), no_other n x xs (ap (λ m. has_num key m xs) (num_eq-same n (key x).num e) ∙ u.0))
      by false e lt' again = ((λ h. absurd cc), again (omega arith))
