-- A sorted rearrangement is the list in order.
use Rattle.std.proofs.Common.{Ordering, Less, Equal, Greater, ◌≡◌, ℕ, zero, suc, ◌+◌, ◌<◌, ◌≤◌, ◌⊎◌, inl, inr, Bool, true, false, cond, ◌==◌, ◌&&◌, List, [], ◌∷◌, ◌++◌, map, length, get_or, take, refl, arith, ap, ap₂, sym, ◌∙◌, subst, append-nil, append_assoc}
use Rattle.std.proofs.lemmas.Bool.{cases_Bool}
use Rattle.std.proofs.lemmas.Bool.Decides.{nat_tests}
use Rattle.std.specs.Prelude.{IsPermutation, IsSortedBy, nat_lt}
use Rattle.std.specs.Ordering.{is_lt, ordering_then, nat_cmp}
use Rattle.std.proofs.lemmas.List.Sorted.{sum_by-IsPermutation}
use Rattle.std.proofs.lemmas.List.Recursion.{is_sum_by}
use Rattle.pm_history.specs.Merged.{Tagged, is_before, placed, in_order, tag, tags}
use Rattle.pm_history.specs.Stories.{Story}

abbrev pub Each : (Tagged → Type 0) → List Tagged → Type 0
Each P [] = Unit {0}
Each P (x ∷ xs) = P x × Each P xs

each_with : (P Q : Tagged → Type 0) (xs : List Tagged) → ((x : Tagged) → P x → Q x) → Each P xs → Each Q xs
each_with P Q [] f a = tt
each_with P Q (x ∷ xs) f a = (f x a.0, each_with P Q xs f a.1)

abbrev pub NotBefore : Tagged → Tagged → Type 0
NotBefore x y = is_before y x ≡ false

abbrev pub Up : List Tagged → Type 0
Up [] = Unit {0}
Up (x ∷ xs) = Each (NotBefore x) xs × Up xs

not_before_on : (x y z : Tagged) → NotBefore x y → NotBefore y z → NotBefore x z
not_before_on x y z h k = grind (arith, nat_tests)

before_not : (x y : Tagged) → is_before x y ≡ true → NotBefore x y
before_not x y h = grind (arith, nat_tests)

same_from : (x y : Tagged) → NotBefore x y → NotBefore y x → x ≡ y
same_from x y h k =
    let a : x.0 ≡ y.0 = grind (arith, nat_tests) in
    let b : x.1 ≡ y.1 = grind (arith, nat_tests) in
    let c : x.2 ≡ y.2 = grind (arith, nat_tests) in
    λ i. (a i, b i, c i)

self_not : (x : Tagged) → NotBefore x x
self_not x = grind (arith, nat_tests)

each_placed : (P : Tagged → Type 0) (e : Tagged) (xs : List Tagged) → P e → Each P xs → Each P (placed e xs)
each_placed P e [] p a = (p, tt)
each_placed P e (x ∷ xs) p a = go (is_before x e) (each_placed P e xs p a.1)
  where
    go : (b : Bool) → Each P (placed e xs) → Each P (cond b (x ∷ placed e xs) (e ∷ (x ∷ xs)))
    go true r = (a.0, r)
    go false r = (p, a)

up_placed : (e : Tagged) (xs : List Tagged) → Up xs → Up (placed e xs)
up_placed e [] u = (tt, tt)
up_placed e (x ∷ xs) u = go (is_before x e) refl (up_placed e xs u.1)
  where
    go : (b : Bool) → is_before x e ≡ b → Up (placed e xs) → Up (cond b (x ∷ placed e xs) (e ∷ (x ∷ xs)))
    go true h r = (each_placed (NotBefore x) e xs (before_not x e h) u.0, r)
    go false h r = ((h, each_with (NotBefore x) (NotBefore e) xs (λ y k. not_before_on e x y h k) u.0), u)

up_in_order : (xs : List Tagged) → Up (in_order xs)
up_in_order [] = tt
up_in_order (x ∷ xs) = up_placed x (in_order xs) (up_in_order xs)

pub total : (Tagged → ℕ) → List Tagged → ℕ
total f [] = 0
total f (x ∷ xs) = f x + total f xs

total_placed : (f : Tagged → ℕ) (e : Tagged) (xs : List Tagged) → total f (placed e xs) ≡ f e + total f xs
unfolding total
total_placed f e [] = refl
total_placed f e (x ∷ xs) = go (is_before x e) (total_placed f e xs)
  where
    go : (b : Bool) → total f (placed e xs) ≡ f e + total f xs
        → total f (cond b (x ∷ placed e xs) (e ∷ (x ∷ xs))) ≡ f e + (f x + total f xs)
    go true r = omega (arith, r)
    go false r = refl

total_in_order : (f : Tagged → ℕ) (xs : List Tagged) → total f (in_order xs) ≡ total f xs
unfolding total
total_in_order f [] = refl
total_in_order f (x ∷ xs) = total_placed f x (in_order xs) ∙ ap (λ z. f x + z) (total_in_order f xs)

-- 1 at x, 0 elsewhere
is_at : Tagged → Tagged → ℕ
is_at x y = cond (x.0 == y.0 && (x.1 == y.1 && x.2 == y.2)) 1 0

at_self : (x : Tagged) → is_at x x ≡ 1
unfolding is_at
at_self x = grind (arith, nat_tests)

at_or : (x y : Tagged) → (is_at x y ≡ 0) ⊎ (x ≡ y)
unfolding is_at
at_or x y = elim (cases_Bool (x.0 == y.0 && (x.1 == y.1 && x.2 == y.2))) [
  | inr f ↦ inl (ap (λ (b : Bool). cond b 1 0) f)
  | inl t ↦ inr (
      let a : x.0 ≡ y.0 = grind (arith, nat_tests, t) in
      let b : x.1 ≡ y.1 = grind (arith, nat_tests, t) in
      let c : x.2 ≡ y.2 = grind (arith, nat_tests, t) in
      λ i. (a i, b i, c i))
]

-- what holds of each holds of x, which is there
held : (P : Tagged → Type 0) (x : Tagged) (ys : List Tagged) → Each P ys → 1 ≤ total (is_at x) ys → P x
unfolding total
held P x [] a h = absurd (omega (arith, h))
held P x (y ∷ ys) a h = elim (at_or x y) [
  | inl none ↦ held P x ys a.1 (omega (arith, h, none))
  | inr same ↦ subst P (sym same) a.0
]

cancel : (a b c : ℕ) → a + b ≡ a + c → b ≡ c
cancel a b c e = omega (arith, e)

-- two sorted lists with the same elements are the same
pub one_order : (xs ys : List Tagged) → Up xs → Up ys → ((f : Tagged → ℕ) → total f xs ≡ total f ys) → xs ≡ ys
unfolding total
one_order [] [] u v h = refl
one_order [] (y ∷ ys) u v h = absurd (let k = h (λ z. 1) in omega (arith, k))
one_order (x ∷ xs) [] u v h = absurd (let k = h (λ z. 1) in omega (arith, k))
one_order (x ∷ xs) (y ∷ ys) u v h =
    let there : 1 ≤ total (is_at x) (y ∷ ys) = (let k = h (is_at x) in let s = at_self x in omega (arith, k, s)) in
    let back : 1 ≤ total (is_at y) (x ∷ xs) = (let k = h (is_at y) in let s = at_self y in omega (arith, k, s)) in
    let low : NotBefore y x = held (NotBefore y) x (y ∷ ys) (self_not y, v.0) there in
    let high : NotBefore x y = held (NotBefore x) y (x ∷ xs) (self_not x, u.0) back in
    let same : x ≡ y = same_from x y high low in
    ap₂ (λ a b. a ∷ b) same (one_order xs ys u.1 v.1 (λ f.
    cancel (f x) (total f xs) (total f ys) (h f ∙ ap (λ z. f z + total f ys) (sym same))))

total_same : (f : Tagged → ℕ) (xs ys : List Tagged) → IsPermutation xs ys → total f ys ≡ total f xs
unfolding total
total_same f xs ys h = is_sum_by (total f) f refl (λ _ _. refl) ys ∙ sum_by-IsPermutation f xs ys h
    ∙ sym (is_sum_by (total f) f refl (λ _ _. refl) xs)

up_from : (lt : Tagged → Tagged → Bool) → ((x y : Tagged) → lt x y ≡ is_before x y) → (xs : List Tagged)
    → IsSortedBy lt xs → Up xs
up_from lt same [] s = tt
up_from lt same (x ∷ []) s = (tt, tt)
up_from lt same (x ∷ (y ∷ ys)) s =
    let next : NotBefore x y = sym (same y x) ∙ s 0 x (omega arith) (omega arith) in
    let rest : Up (y ∷ ys) = up_from lt same (y ∷ ys) (λ k d low lt'.
    subst (λ (j : ℕ). lt (get_or (x ∷ (y ∷ ys)) j d) (get_or (y ∷ ys) k d) ≡ false)
    {x = suc k + 1} {y = suc (k + 1)} (omega arith) (s (suc k) d (omega arith) (omega (arith, lt')))) in
    ((next, each_with (NotBefore y) (NotBefore x) ys (λ z k. not_before_on x y z next k) rest.0), rest)

-- what a sort gives is the list in order
pub sorted_is : (lt : Tagged → Tagged → Bool) → ((x y : Tagged) → lt x y ≡ is_before x y) → (xs ys : List Tagged)
    → IsPermutation xs ys → IsSortedBy lt ys → ys ≡ in_order xs
sorted_is lt same xs ys moved sorted =
    one_order ys (in_order xs) (up_from lt same ys sorted) (up_in_order xs)
    (λ f. total_same f xs ys moved ∙ sym (total_in_order f xs))

-- one more history
pub tags_more : (hs : List Story) (k : ℕ) (d : Story) → k < length hs
    → tags (take (k + 1) hs) ≡ tags (take k hs) ++ map (tag (get_or hs k d).process) (get_or hs k d).heard
tags_more [] k d lt = absurd (omega arith)
tags_more (h ∷ hs) zero d lt = append-nil (map (tag h.process) h.heard)
tags_more (h ∷ hs) (suc k) d lt =
    let first : List Tagged = map (tag h.process) h.heard in
    let next : List Tagged = map (tag (get_or hs k d).process) (get_or hs k d).heard in
    subst (λ (n : ℕ). tags (take n (h ∷ hs)) ≡ tags (take (suc k) (h ∷ hs)) ++ next)
    {x = suc (k + 1)} {y = suc k + 1} (omega arith)
    (ap (λ z. first ++ z) (tags_more hs k d (omega arith)) ∙ sym (append_assoc first (tags (take k hs)) next))

-- the order of triples
abbrev pub triples : Tagged → Tagged → Bool
triples x y = is_lt (ordering_then (ordering_then (nat_cmp x.0 y.0) (nat_cmp x.1 y.1)) (nat_cmp x.2 y.2))

-- what a comparison's answer says of its two tests
abbrev Is : Ordering → ℕ → ℕ → Type 0
Is Less a b = nat_lt a b ≡ true
Is Equal a b = (nat_lt a b ≡ false) × ((a == b) ≡ true)
Is Greater a b = (nat_lt a b ≡ false) × ((a == b) ≡ false)

pub triples_is : (x y : Tagged) → triples x y ≡ is_before x y
triples_is x y =
    go (nat_cmp x.0 y.0) (nat_cmp x.1 y.1) (nat_cmp x.2 y.2) (cmp_is x.0 y.0) (cmp_is x.1 y.1) (cmp_is x.2 y.2)
  where
    cmp_is : (a b : ℕ) → Is (nat_cmp a b) a b
    cmp_is a b = elim (cases_Bool (nat_lt a b)) [
      | inl t ↦ subst (λ (c : Bool). Is (cond c Less (cond (a == b) Equal Greater)) a b) (sym t) t
      | inr f ↦ elim (cases_Bool (a == b)) [
        | inl s ↦ subst (λ (c : Bool). Is (cond c Less (cond (a == b) Equal Greater)) a b) (sym f)
            (subst (λ (c : Bool). Is (cond c Equal Greater) a b) (sym s) (f, s))
        | inr n ↦ subst (λ (c : Bool). Is (cond c Less (cond (a == b) Equal Greater)) a b) (sym f)
            (subst (λ (c : Bool). Is (cond c Equal Greater) a b) (sym n) (f, n))
      ]
    ]

    go : (o p q : Ordering) → Is o x.0 y.0 → Is p x.1 y.1 → Is q x.2 y.2
        → is_lt (ordering_then (ordering_then o p) q) ≡ is_before x y
    go Less p q a b c = rw a refl
    go Greater p q a b c = rw a.0 (rw a.1 refl)
    go Equal Less q a b c = rw a.0 (rw a.1 (rw b refl))
    go Equal Greater q a b c = rw a.0 (rw a.1 (rw b.0 (rw b.1 refl)))
    go Equal Equal Less a b c = rw a.0 (rw a.1 (rw b.0 (rw b.1 (rw c refl))))
    go Equal Equal Equal a b c = rw a.0 (rw a.1 (rw b.0 (rw b.1 (rw c.0 refl))))
    go Equal Equal Greater a b c = rw a.0 (rw a.1 (rw b.0 (rw b.1 (rw c.0 refl))))
