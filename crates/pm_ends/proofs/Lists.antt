-- Lists by place, and lists that go on.
use Rattle.std.proofs.Common.{ℕ, zero, suc, ◌≡◌, ◌<◌, ◌≢◌, List, [], ◌∷◌, ◌++◌, length, get_or, set, map, refl, sym}
use Rattle.std.proofs.Common.{ap, ap₂, ◌∙◌, arith, append-nil, append_assoc}
use Rattle.std.proofs.Common.{Some, ◌⊎◌, inl, inr, subst}
use Rattle.std.specs.List.{AllByRecursion}
use Rattle.pm_ends.specs.Numbers.{Begins, Pairs, nth}

-- the same item stands there
pub some_same : {X : Type 0} (x y : X) → Some x ≡ Some y → x ≡ y
some_same x y e = cc

-- a list goes on as itself
pub begins_same : {X : Type 0} (xs : List X) → Begins xs xs
begins_same xs = ([], sym (append-nil xs))

-- and as what goes on from that
pub begins_on : {X : Type 0} (xs ys zs : List X) → Begins xs ys → Begins ys zs → Begins xs zs
begins_on xs ys zs p q = (p.0 ++ q.0, q.1 ∙ ap (λ l. l ++ q.0) p.1 ∙ append_assoc xs p.0 q.0)

-- each is related to itself
pub pairs_same : {X : Type 0} (R : X → X → Type 0) → ((x : X) → R x x) → (xs : List X) → Pairs R xs xs
pairs_same R same [] = tt
pairs_same R same (x ∷ xs) = (same x, pairs_same R same xs)

-- one after the other
pub pairs_on : {X : Type 0} (R : X → X → Type 0) → ((x y z : X) → R x y → R y z → R x z) → (xs ys zs : List X)
    → Pairs R xs ys → Pairs R ys zs → Pairs R xs zs
pairs_on R on [] [] zs p q = q
pairs_on R on [] (y ∷ ys) zs p q = absurd p
pairs_on R on (x ∷ xs) [] zs p q = absurd p
pairs_on R on (x ∷ xs) (y ∷ ys) [] p q = absurd q
pairs_on R on (x ∷ xs) (y ∷ ys) (z ∷ zs) p q = (on x y z p.0 q.0, pairs_on R on xs ys zs p.1 q.1)

-- one is written
pub pairs_set : {X : Type 0} (R : X → X → Type 0) → ((x : X) → R x x) → (xs : List X) (i : ℕ) (d y : X)
    → R (get_or xs i d) y → Pairs R xs (set xs i y)
pairs_set R same [] i d y r = tt
pairs_set R same (x ∷ xs) zero d y r = (r, pairs_same R same xs)
pairs_set R same (x ∷ xs) (suc i) d y r = (same x, pairs_set R same xs i d y r)

-- what the relation keeps stays
pub pairs_map : {X Y : Type 0} (R : X → X → Type 0) (f : X → Y) → ((x y : X) → R x y → f y ≡ f x) → (xs ys : List X)
    → Pairs R xs ys → map f ys ≡ map f xs
pairs_map R f keeps [] [] p = refl
pairs_map R f keeps [] (y ∷ ys) p = absurd p
pairs_map R f keeps (x ∷ xs) [] p = absurd p
pairs_map R f keeps (x ∷ xs) (y ∷ ys) p = ap₂ (λ a l. a ∷ l) (keeps x y p.0) (pairs_map R f keeps xs ys p.1)

-- the item at a place, after and before
pub pairs_back : {X : Type 0} (R : X → X → Type 0) (xs ys : List X) (i : ℕ) (y : X) → Pairs R xs ys → nth ys i ≡ Some y
    → (x : X) × (nth xs i ≡ Some x) × R x y
pairs_back R [] [] i y p e = absurd (cc)
pairs_back R [] (z ∷ ys) i y p e = absurd p
pairs_back R (x ∷ xs) [] i y p e = absurd p
pairs_back R (x ∷ xs) (z ∷ ys) zero y p e = (
  x,
  refl,
  (let same : z ≡ y = some_same z y e in
      subst (λ w. R x w) same p.0),
)
pairs_back R (x ∷ xs) (z ∷ ys) (suc i) y p e = pairs_back R xs ys i y p.1 e

-- a place where an item stands is inside, and the item is the one that is read there
pub nth_is : {X : Type 0} (xs : List X) (i : ℕ) (d x : X) → nth xs i ≡ Some x → (i < length xs) × (get_or xs i d ≡ x)
nth_is [] i d x e = absurd (cc)
nth_is (y ∷ ys) zero d x e = (omega arith, some_same y x e)
nth_is (y ∷ ys) (suc i) d x e = (let r = nth_is ys i d x e in let lt = r.0 in (omega arith, r.1))

-- inside, an item stands at each place
pub is_nth : {X : Type 0} (xs : List X) (i : ℕ) (d : X) → i < length xs → nth xs i ≡ Some (get_or xs i d)
is_nth [] i d lt = absurd (omega arith)
is_nth (y ∷ ys) zero d lt = refl
is_nth (y ∷ ys) (suc i) d lt = is_nth ys i d (omega arith)

-- what was written stands at its place
pub nth_set : {X : Type 0} (xs : List X) (i : ℕ) (x : X) → i < length xs → nth (set xs i x) i ≡ Some x
nth_set [] i x lt = absurd (omega arith)
nth_set (y ∷ ys) zero x lt = refl
nth_set (y ∷ ys) (suc i) x lt = nth_set ys i x (omega arith)

-- an item of the front
pub nth_front : {X : Type 0} (xs ys : List X) (i : ℕ) (x : X) → nth xs i ≡ Some x → nth (xs ++ ys) i ≡ Some x
nth_front [] ys i x e = absurd (cc)
nth_front (z ∷ xs) ys zero x e = e
nth_front (z ∷ xs) ys (suc i) x e = nth_front xs ys i x e

-- the item behind the front
pub nth_last : {X : Type 0} (xs : List X) (x : X) → nth (xs ++ x ∷ []) (length xs) ≡ Some x
nth_last [] x = refl
nth_last (z ∷ xs) x = nth_last xs x

-- an item of a list with one more behind it: of the front, or the last
pub nth_either : {X : Type 0} (xs : List X) (y : X) (i : ℕ) (x : X) → nth (xs ++ y ∷ []) i ≡ Some x
    → (nth xs i ≡ Some x) ⊎ (y ≡ x)
nth_either [] y zero x e = inr (some_same y x e)
nth_either [] y (suc i) x e = absurd (cc)
nth_either (z ∷ xs) y zero x e = inl e
nth_either (z ∷ xs) y (suc i) x e = nth_either xs y i x e

-- what holds of both parts
pub all_append : {X : Type 0} (P : X → Type 0) (xs ys : List X) → AllByRecursion P xs → AllByRecursion P ys
    → AllByRecursion P (xs ++ ys)
all_append P [] ys p q = q
all_append P (x ∷ xs) ys p q = (p.0, all_append P xs ys p.1 q)

-- what holds at a place
pub all_get : {X : Type 0} (P : X → Type 0) (xs : List X) (i : ℕ) (d : X) → AllByRecursion P xs → i < length xs
    → P (get_or xs i d)
all_get P [] i d p lt = absurd (omega arith)
all_get P (x ∷ xs) zero d p lt = p.0
all_get P (x ∷ xs) (suc i) d p lt = all_get P xs i d p.1 (omega arith)

-- what holds of each holds of each by a weaker word
pub all_weaker : {X : Type 0} (P Q : X → Type 0) → ((x : X) → P x → Q x) → (xs : List X) → AllByRecursion P xs
    → AllByRecursion Q xs
all_weaker P Q weaker [] p = tt
all_weaker P Q weaker (x ∷ xs) p = (weaker x p.0, all_weaker P Q weaker xs p.1)

-- what is read of a list that was mapped
pub get_map : {X Y : Type 0} (f : X → Y) (xs : List X) (i : ℕ) (d : X) → get_or (map f xs) i (f d) ≡ f (get_or xs i d)
get_map f [] i d = refl
get_map f (x ∷ xs) zero d = refl
get_map f (x ∷ xs) (suc i) d = get_map f xs i d

-- the item that stands at a place of a list that was mapped
pub map_nth : {X Y : Type 0} (f : X → Y) (xs : List X) (i : ℕ) (d : X) (y : Y) → nth (map f xs) i ≡ Some y
    → (i < length xs) × (f (get_or xs i d) ≡ y)
map_nth f [] i d y e = absurd (cc)
map_nth f (x ∷ xs) zero d y e = (omega arith, some_same (f x) y e)
map_nth f (x ∷ xs) (suc i) d y e = (let r = map_nth f xs i d y e in let lt = r.0 in (omega arith, r.1))

-- inside, its item stands there
pub nth_map : {X Y : Type 0} (f : X → Y) (xs : List X) (i : ℕ) (d : X) → i < length xs
    → nth (map f xs) i ≡ Some (f (get_or xs i d))
nth_map f [] i d lt = absurd (omega arith)
nth_map f (x ∷ xs) zero d lt = refl
nth_map f (x ∷ xs) (suc i) d lt = nth_map f xs i d (omega arith)

-- what is written elsewhere leaves a place as it was
pub nth_else : {X : Type 0} (xs : List X) (i j : ℕ) (x : X) → j ≢ i → nth (set xs i x) j ≡ nth xs j
nth_else [] i j x ne = refl
nth_else (y ∷ ys) zero zero x ne = absurd (ne refl)
nth_else (y ∷ ys) zero (suc j) x ne = refl
nth_else (y ∷ ys) (suc i) zero x ne = refl
nth_else (y ∷ ys) (suc i) (suc j) x ne = nth_else ys i j x (λ e. ne (ap suc e))

-- inside, what is read doesn't hang on what stands past the end
pub any_same : {X : Type 0} (xs : List X) (r : ℕ) (d e : X) → r < length xs → get_or xs r d ≡ get_or xs r e
any_same [] r d e lt = absurd (omega (arith, lt))
any_same (z ∷ xs) zero d e lt = refl
any_same (z ∷ xs) (suc r) d e lt = any_same xs r d e (omega (arith, lt))
