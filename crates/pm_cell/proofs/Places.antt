-- Lists by their places, and lists that are related place by place, beyond what the ends want of them.
use Rattle.std.proofs.Common.{◌≡◌, ℕ, zero, suc, ◌+◌, ◌≤◌, ◌<◌, List, [], ◌∷◌, ◌++◌, map, length, get_or, set, refl, arith, ap, ◌∙◌, Some}
use Rattle.pm_ends.specs.Numbers.{Pairs, nth}
use Rattle.pm_ends.proofs.Lists.{some_same}

pub get_past : {X : Type 0} (xs : List X) (i : ℕ) (d : X) → length xs ≤ i → get_or xs i d ≡ d
get_past [] i d le = refl
get_past (y ∷ ys) zero d le = absurd (omega arith)
get_past (y ∷ ys) (suc i) d le = get_past ys i d (omega arith)

-- the later write counts
pub set_twice : {X : Type 0} (xs : List X) (i : ℕ) (x y : X) → set (set xs i x) i y ≡ set xs i y
set_twice [] i x y = refl
set_twice (z ∷ zs) zero x y = refl
set_twice (z ∷ zs) (suc i) x y = ap (λ w. z ∷ w) (set_twice zs i x y)

pub map_set : {X Y : Type 0} (f : X → Y) (xs : List X) (i : ℕ) (x d : X) → f x ≡ f (get_or xs i d)
    → map f (set xs i x) ≡ map f xs
map_set f [] i x d e = refl
map_set f (y ∷ ys) zero x d e = ap (λ z. z ∷ map f ys) e
map_set f (y ∷ ys) (suc i) x d e = ap (λ z. f y ∷ z) (map_set f ys i x d e)

-- what stands at a place once a list was gone over
pub over_nth : {X Y : Type 0} (f : X → Y) (xs : List X) (i : ℕ) (x : X) → nth xs i ≡ Some x
    → nth (map f xs) i ≡ Some (f x)
over_nth f [] i x e = absurd (cc)
over_nth f (y ∷ ys) zero x e = ap (λ z. Some (f z)) (some_same y x e)
over_nth f (y ∷ ys) (suc i) x e = over_nth f ys i x e

-- and what stood there before
pub record Mapped {X Y : Type 0} (f : X → Y) (xs : List X) (i : ℕ) (y : Y) : Type 0 where
  pub was : X
  pub at : nth xs i ≡ Some was
  pub is : f was ≡ y

pub was_nth : {X Y : Type 0} (f : X → Y) (xs : List X) (i : ℕ) (y : Y) → nth (map f xs) i ≡ Some y → Mapped f xs i y
was_nth f [] i y e = absurd (cc)
was_nth f (x ∷ xs) zero y e = record { was = x; at = refl; is = some_same (f x) y e }
was_nth f (x ∷ xs) (suc i) y e = (let r = was_nth f xs i y e in record { was = r.was; at = r.at; is = r.is })

pub nth_left : {X : Type 0} (xs ys : List X) (i : ℕ) → i < length xs → nth (xs ++ ys) i ≡ nth xs i
nth_left [] ys i lt = absurd (omega arith)
nth_left (x ∷ xs) ys zero lt = refl
nth_left (x ∷ xs) ys (suc i) lt = nth_left xs ys i (omega arith)

pub nth_right : {X : Type 0} (xs ys : List X) (i : ℕ) → nth (xs ++ ys) (length xs + i) ≡ nth ys i
nth_right [] ys i = ap (nth ys) (omega arith)
nth_right (x ∷ xs) ys i = (let e : suc (length xs) + i ≡ suc (length xs + i) = omega arith in ap
    (nth (x ∷ (xs ++ ys))) e ∙ nth_right xs ys i)

-- ---- place by place

pub pairs_long : {X : Type 0} (R : X → X → Type 0) (xs ys : List X) → Pairs R xs ys → length ys ≡ length xs
pairs_long R [] [] r = refl
pairs_long R [] (y ∷ ys) r = absurd r
pairs_long R (x ∷ xs) [] r = absurd r
pairs_long R (x ∷ xs) (y ∷ ys) r = ap suc (pairs_long R xs ys r.1)

-- where both are gone over
pub pairs_over : {X Y : Type 0} (R : X → X → Type 0) (Q : Y → Y → Type 0) (f : X → Y)
    → ((a b : X) → R a b → Q (f a) (f b)) → (xs ys : List X) → Pairs R xs ys → Pairs Q (map f xs) (map f ys)
pairs_over R Q f g [] [] r = tt
pairs_over R Q f g [] (y ∷ ys) r = absurd r
pairs_over R Q f g (x ∷ xs) [] r = absurd r
pairs_over R Q f g (x ∷ xs) (y ∷ ys) r = (g x y r.0, pairs_over R Q f g xs ys r.1)

-- the pair at a place, where past the end stands a pair too
pub pairs_get : {X : Type 0} (R : X → X → Type 0) (xs ys : List X) (i : ℕ) (d : X) → R d d → Pairs R xs ys
    → R (get_or xs i d) (get_or ys i d)
pairs_get R [] [] i d base r = base
pairs_get R [] (y ∷ ys) i d base r = absurd r
pairs_get R (x ∷ xs) [] i d base r = absurd r
pairs_get R (x ∷ xs) (y ∷ ys) zero d base r = r.0
pairs_get R (x ∷ xs) (y ∷ ys) (suc i) d base r = pairs_get R xs ys i d base r.1
