-- What is made of the items of two lists at each index.
use Rattle.std.proofs.Common.{◌≡◌, ℕ, zero, suc, ◌+◌, ◌<◌, ◌⊎◌, inl, inr, min, List, [], ◌∷◌, ◌++◌, length, get_or, drop, map, Some, None, refl, sym, ap, ◌∙◌, arith, append-nil, append_assoc}
use Rattle.std.proofs.lemmas.Bool.{cases_lt}
use Rattle.std.specs.Prelude.{option_map, slice_get}
use Rattle.std.proofs.lemmas.List.{drop_more, drop_all}
use Rattle.std.proofs.lemmas.Option.{same_Some, slice_get_cases}
use Rattle.pm_resume.specs.Cuts.{pairwise}

-- one pair more
pub pairwise_more : {A B C : Type 0} (f : A → B → C) (xs : List A) (ys : List B) (i : ℕ) (x : A) (y : B) → i < length xs → i < length ys
    → x ≡ get_or xs i x → y ≡ get_or ys i y → pairwise f (drop i xs) (drop i ys) ≡ f x y ∷ pairwise f (drop (i + 1) xs) (drop (i + 1) ys)
pairwise_more f xs ys i x y lx ly ex ey =
    ap (λ us. pairwise f us (drop i ys)) (drop_more xs i x lx)
    ∙ ap (λ vs. pairwise f (get_or xs i x ∷ drop (i + 1) xs) vs) (drop_more ys i y ly)
    ∙ ap (λ u. f u (get_or ys i y) ∷ pairwise f (drop (i + 1) xs) (drop (i + 1) ys)) (sym ex)
    ∙ ap (λ v. f x v ∷ pairwise f (drop (i + 1) xs) (drop (i + 1) ys)) (sym ey)

-- one item more, which was made of the pair at that index
pub pair_item : {A B C : Type 0} (f : A → B → C) (xs : List A) (ys : List B) (i : ℕ) (x : A) (z : C) → i < length xs → length ys ≡ length xs
    → x ≡ get_or xs i x → Some z ≡ option_map (f x) (slice_get ys i) → pairwise f (drop i xs) (drop i ys) ≡ z ∷ pairwise f (drop (i + 1) xs) (drop (i + 1) ys)
pair_item f xs ys i x z lt same ex made = elim (slice_get_cases ys i).1 [
  | inl q ↦
      let is : z ≡ f x q.0 = same_Some _ _ (made ∙ ap (option_map (f x)) q.2) in
      pairwise_more f xs ys i x q.0 lt q.1 ex (sym q.3)
      ∙ ap (λ c. c ∷ pairwise f (drop (i + 1) xs) (drop (i + 1) ys)) (sym is)
  | inr n ↦ absurd (let a = n.0 in omega (arith, a, lt, same))
]

none_right : {A B C : Type 0} (f : A → B → C) (xs : List A) → pairwise f xs [] ≡ []
none_right f [] = refl
none_right f (x ∷ xs) = refl

-- no pair is left where one of the lists is at its end
pub pairwise_end : {A B C : Type 0} (f : A → B → C) (xs : List A) (ys : List B) (i : ℕ) → i ≡ min (length xs) (length ys)
    → pairwise f (drop i xs) (drop i ys) ≡ []
pairwise_end f xs ys i e = elim (cases_lt (length xs) (length ys)) [
  | inl lt ↦ ap (λ us. pairwise f us (drop i ys)) (drop_all i xs (omega (arith, e, lt)))
  | inr le ↦ ap (pairwise f (drop i xs)) (drop_all i ys (omega (arith, e, le))) ∙ none_right f (drop i xs)
]

-- an equation between what was made so far and the whole, one pair on
pub so_far : {C : Type 0} (all more rest rest2 whole : List C) (x : C) → all ++ rest ≡ whole → rest ≡ x ∷ rest2 → more ≡ all ++ x ∷ [] → more ++ rest2 ≡ whole
so_far all more rest rest2 whole x e r m =
    ap (λ ms. ms ++ rest2) m ∙ append_assoc all (x ∷ []) rest2 ∙ ap (λ rs. all ++ rs) (sym r) ∙ e

pub so_far_end : {C : Type 0} (all rest whole : List C) → all ++ rest ≡ whole → rest ≡ [] → all ≡ whole
so_far_end all rest whole e r = sym (append-nil all) ∙ ap (λ rs. all ++ rs) (sym r) ∙ e

pub length_pairwise : {A B C : Type 0} (f : A → B → C) (xs : List A) (ys : List B) → length ys ≡ length xs → length (pairwise f xs ys) ≡ length xs
length_pairwise f [] ys e = refl
length_pairwise f (x ∷ xs) [] e = absurd (omega (arith, e))
length_pairwise f (x ∷ xs) (y ∷ ys) e = ap suc (length_pairwise f xs ys (omega (arith, e)))

-- what of the pairs is what of the first list
pub map_firsts : {A B C D : Type 0} (g : C → D) (h : A → D) (f : A → B → C) (xs : List A) (ys : List B) → ((x : A) (y : B) → g (f x y) ≡ h x) → length ys ≡ length xs
    → map g (pairwise f xs ys) ≡ map h xs
map_firsts g h f [] ys same e = refl
map_firsts g h f (x ∷ xs) [] same e = absurd (omega (arith, e))
map_firsts g h f (x ∷ xs) (y ∷ ys) same e =
    ap (λ d. d ∷ map g (pairwise f xs ys)) (same x y) ∙ ap (λ ds. h x ∷ ds) (map_firsts g h f xs ys same (omega (arith, e)))

-- what of the pairs gives the second list back
pub map_seconds : {A B C : Type 0} (g : C → B) (f : A → B → C) (xs : List A) (ys : List B) → ((x : A) (y : B) → g (f x y) ≡ y) → length ys ≡ length xs
    → map g (pairwise f xs ys) ≡ ys
map_seconds g f [] [] same e = refl
map_seconds g f [] (y ∷ ys) same e = absurd (omega (arith, e))
map_seconds g f (x ∷ xs) [] same e = absurd (omega (arith, e))
map_seconds g f (x ∷ xs) (y ∷ ys) same e =
    ap (λ b. b ∷ map g (pairwise f xs ys)) (same x y) ∙ ap (λ bs. y ∷ bs) (map_seconds g f xs ys same (omega (arith, e)))

-- the pair at an index, where there is one
pub record PairAt {A B C : Type 0} (f : A → B → C) (xs : List A) (ys : List B) (k : ℕ) : Type 0 where
  pub first : A
  pub second : B
  pub left : slice_get xs k ≡ Some first
  pub right : slice_get ys k ≡ Some second
  pub both : slice_get (pairwise f xs ys) k ≡ Some (f first second)

pub pair_at : {A B C : Type 0} (f : A → B → C) (xs : List A) (ys : List B) (k : ℕ) → length ys ≡ length xs
    → ((slice_get xs k ≡ None) × (slice_get (pairwise f xs ys) k ≡ None)) ⊎ PairAt f xs ys k
pair_at f [] ys k e = inl (refl, refl)
pair_at f (x ∷ xs) [] k e = absurd (omega (arith, e))
pair_at f (x ∷ xs) (y ∷ ys) zero e = inr (record { first = x; second = y; left = refl; right = refl; both = refl })
pair_at f (x ∷ xs) (y ∷ ys) (suc k) e = elim (pair_at f xs ys k (omega (arith, e))) [
  | inl n ↦ inl n
  | inr p ↦ inr (record { first = p.first; second = p.second; left = p.left; right = p.right; both = p.both })
]
