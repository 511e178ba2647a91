-- Lists: what holds of each element, membership, a flat_map with one part made shorter, entries in order.
use Rattle.std.proofs.Common.{◌≡◌, ℕ, zero, suc, ◌<◌, ◌⊎◌, inl, inr, false, List, [], ◌∷◌, ◌++◌, flat_map, length, get_or, set, refl, arith, ap, sym, ◌∙◌, subst, append_assoc}
use Rattle.std.proofs.lemmas.Bool.{cond_both}
use Rattle.pm_base.specs.declared.rows.Entry.{Entry}
use Rattle.pm_base.specs.Stamps.{IsBefore, stamp_lt}
use Rattle.pm_sim.specs.Worlds.{add_entry, in_order}
use Rattle.pm_sim.specs.Sims.{Each, In}
use Rattle.pm_sim.proofs.Stamps.{lt_true, lt_false}

pub each_in : {X : Type 0} (P : X → Type 0) (xs : List X) (x : X) → Each P xs → In x xs → P x
each_in P [] x a i = absurd i
each_in P (y ∷ ys) x a (inl e) = subst P (sym e) a.0
each_in P (y ∷ ys) x a (inr i) = each_in P ys x a.1 i

pub each_from : {X : Type 0} (P : X → Type 0) (xs : List X) → ((x : X) → In x xs → P x) → Each P xs
each_from P [] f = tt
each_from P (y ∷ ys) f = (f y (inl refl), each_from P ys (λ x i. f x (inr i)))

pub each_append : {X : Type 0} (P : X → Type 0) (xs ys : List X) → Each P xs → Each P ys → Each P (xs ++ ys)
each_append P [] ys a b = b
each_append P (x ∷ xs) ys a b = (a.0, each_append P xs ys a.1 b)

pub each_left : {X : Type 0} (P : X → Type 0) (xs ys : List X) → Each P (xs ++ ys) → Each P xs
each_left P [] ys a = tt
each_left P (x ∷ xs) ys a = (a.0, each_left P xs ys a.1)

pub each_right : {X : Type 0} (P : X → Type 0) (xs ys : List X) → Each P (xs ++ ys) → Each P ys
each_right P [] ys a = a
each_right P (x ∷ xs) ys a = each_right P xs ys a.1

pub in_left : {X : Type 0} (xs ys : List X) (x : X) → In x xs → In x (xs ++ ys)
in_left [] ys x i = absurd i
in_left (y ∷ xs) ys x (inl e) = inl e
in_left (y ∷ xs) ys x (inr i) = inr (in_left xs ys x i)

pub in_right : {X : Type 0} (xs ys : List X) (x : X) → In x ys → In x (xs ++ ys)
in_right [] ys x i = i
in_right (y ∷ xs) ys x i = inr (in_right xs ys x i)

pub in_cases : {X : Type 0} (xs ys : List X) (x : X) → In x (xs ++ ys) → In x xs ⊎ In x ys
in_cases [] ys x i = inr i
in_cases (y ∷ xs) ys x (inl e) = inl (inl e)
in_cases (y ∷ xs) ys x (inr i) = elim (in_cases xs ys x i) [ inl j ↦ inl (inr j) | inr j ↦ inr j ]

-- what is in a flat_map comes from a place of the list
pub in_flat : {X Y : Type 0} (f : X → List Y) (xs : List X) (d : X) (y : Y)
    → In y (flat_map f xs) → (i : ℕ) × (i < length xs) × In y (f (get_or xs i d))
in_flat f [] d y h = absurd h
in_flat f (x ∷ xs) d y h = elim (in_cases (f x) (flat_map f xs) y h) [
  | inl j ↦ (zero, omega arith, j)
  | inr j ↦ (let r = in_flat f xs d y j in (suc r.0, (let k = r.1 in omega arith), r.2))
]

pub flat_in : {X Y : Type 0} (f : X → List Y) (xs : List X) (d : X) (y : Y) (i : ℕ)
    → i < length xs → In y (f (get_or xs i d)) → In y (flat_map f xs)
flat_in f [] d y i lt h = absurd (omega arith)
flat_in f (x ∷ xs) d y zero lt h = in_left (f x) (flat_map f xs) y h
flat_in f (x ∷ xs) d y (suc i) lt h = in_right (f x) (flat_map f xs) y (flat_in f xs d y i (omega arith) h)

-- one part of a flat_map loses its head
pub flat_cut : {X Y : Type 0} (f : X → List Y) (xs : List X) (i : ℕ) (d z : X) (e : Y)
    → i < length xs → f (get_or xs i d) ≡ e ∷ f z
    → (left : List Y)
    × (right : List Y) × (flat_map f xs ≡ left ++ e ∷ right) × (flat_map f (set xs i z) ≡ left ++ right)
flat_cut f [] i d z e lt h = absurd (omega arith)
flat_cut f (x ∷ xs) zero d z e lt h = ([], f z ++ flat_map f xs, ap (λ w. w ++ flat_map f xs) h, refl)
flat_cut f (x ∷ xs) (suc i) d z e lt h =
    let r = flat_cut f xs i d z e (omega arith) h in (
      f x ++ r.0,
      r.1,
      ap (λ w. f x ++ w) r.2
          ∙ sym (append_assoc (f x) r.0 (e ∷ r.1)),
      ap (λ w. f x ++ w) r.3 ∙ sym (append_assoc (f x) r.0 r.1),
    )

pub add_first : (e : Entry) (ys : List Entry) → Each (λ x. IsBefore e.stamp x.stamp) ys → add_entry e ys ≡ e ∷ ys
add_first e [] a = refl
add_first e (y ∷ ys) a = rw (lt_true e.stamp y.stamp a.0)

pub each_add : (P : Entry → Type 0) (e : Entry) (ys : List Entry) → P e → Each P ys → Each P (add_entry e ys)
each_add P e [] p a = (p, tt)
each_add P e (y ∷ ys) p a = cond_both (stamp_lt e.stamp y.stamp)
    (e ∷ (y ∷ ys)) (y ∷ add_entry e ys) (Each P) (λ _. (p, a)) (λ _. (a.0, each_add P e ys p a.1))

pub each_in_order : (P : Entry → Type 0) (es : List Entry) → Each P es → Each P (in_order es)
each_in_order P [] a = tt
each_in_order P (e ∷ es) a = each_add P e (in_order es) a.0 (each_in_order P es a.1)

-- an entry before all others comes first
pub in_order_mid : (xs : List Entry) (e : Entry) (ys : List Entry)
    → Each (λ x. IsBefore e.stamp x.stamp) (xs ++ ys) → in_order (xs ++ e ∷ ys) ≡ e ∷ in_order (xs ++ ys)
in_order_mid [] e ys a = add_first e (in_order ys) (each_in_order (λ x. IsBefore e.stamp x.stamp) ys a)
in_order_mid (x ∷ xs) e ys a =
    let late : stamp_lt x.stamp e.stamp ≡ false = lt_false x.stamp e.stamp (grind (arith, a.0)) in
    ap (add_entry x) (in_order_mid xs e ys a.1) ∙ rw late
