-- Arrays of tables that grow.
use Rattle.std.proofs.Common.{◌≡◌, refl, ap, ap₂, sym, subst, ◌∙◌, arith, ℕ, zero, suc, ◌+◌, ◌<◌, ◌≤◌, List, [], ◌∷◌, ◌++◌, get_or, length, map, take, drop}
use Rattle.std.specs.List.{AllByRecursion, zip}
use Rattle.std.proofs.lemmas.List.{map-append, take-map, take_more}
use Rattle.std.proofs.lemmas.Option.{same_Some}
use Rattle.std.specs.Prelude.{slice_get, Some, None}
use Rattle.toml.proofs.Views.{items_view-push}
use Rattle.toml.specs.Data.{Data, Items, item, Members, push_item, table}
use Rattle.toml.specs.View.{items_view, view}
use Rattle.toml.specs.declared.value.Value.{Value}
use Rattle.pm_base.specs.declared.layout.ClassRow.{ClassRow}
use Rattle.pm_plan.specs.Plans.{own_classes}
use Rattle.pm_plan.specs.declared.parts.VarPart.{VarPart}
use Rattle.pm_upgrade.specs.Documents.{class_members, items_of}

items-push : {A : Type 0} (f : A → Members) (xs : List A) (x : A) → items_of f (xs ++ x ∷ []) ≡ push_item (items_of f xs) (table (f x))
items-push f [] x = refl
items-push f (y ∷ xs) x = ap (item (table (f y))) (items-push f xs x)

-- one more table
pub items-more : {A B : Type 0} (f : B → Members) (g : A → B) (vs : List Value) (v : Value) (xs : List A) (i : ℕ) (x : A) → i < length xs → x ≡ get_or xs i x
    → items_view vs ≡ items_of f (map g (take i xs)) → view v ≡ table (f (g x)) → items_view (vs ++ v ∷ []) ≡ items_of f (map g (take (i + 1) xs))
items-more f g vs v xs i x lt is so seen =
    let grown : map g (take (i + 1) xs) ≡ map g (take i xs) ++ g x ∷ [] = rw (take_more xs i x lt, ← is) (map-append g (take i xs) (x ∷ [])) in
    rw (items_view-push vs v, grown, items-push f (map g (take i xs)) (g x), so, seen) refl

-- one more class
own-more : (ns : List (List ℕ)) (cs : List ClassRow) (vars : List VarPart) (i : ℕ) (n : List ℕ) (c : ClassRow) → i < length ns
    → n ≡ get_or ns i n → slice_get cs i ≡ Some c
    → own_classes (take (i + 1) ns) (take (i + 1) cs) vars ≡ own_classes (take i ns) (take i cs) vars ++ (record { name = n; vars = take c.count (drop c.first vars) }) ∷ []
own-more [] cs vars i n c lt is found = absurd (omega (arith, lt))
own-more (m ∷ ns) [] vars i n c lt is found = absurd (cc found)
own-more (m ∷ ns) (d ∷ cs) vars zero n c lt is found =
    ap₂ (λ (x : List ℕ) (y : ClassRow). (record { name = x; vars = take y.count (drop y.first vars) }) ∷ []) (sym is) (same_Some _ _ found)
own-more (m ∷ ns) (d ∷ cs) vars (suc i) n c lt is found =
    let next : suc i + 1 ≡ suc (i + 1) = omega arith in
    rw next (ap (λ more. (record { name = m; vars = take d.count (drop d.first vars) }) ∷ more) (own-more ns cs vars i n c (omega (arith, lt)) is found))

pub classes-more : (vs : List Value) (v : Value) (ns : List (List ℕ)) (cs : List ClassRow) (vars : List VarPart) (i : ℕ) (n : List ℕ) (c : ClassRow) → i < length ns
    → n ≡ get_or ns i n → slice_get cs i ≡ Some c
    → items_view vs ≡ items_of class_members (own_classes (take i ns) (take i cs) vars)
    → view v ≡ table (class_members (record { name = n; vars = take c.count (drop c.first vars) }))
    → items_view (vs ++ v ∷ []) ≡ items_of class_members (own_classes (take (i + 1) ns) (take (i + 1) cs) vars)
classes-more vs v ns cs vars i n c lt is found so seen =
    rw (
      items_view-push vs v,
      own-more ns cs vars i n c lt is found,
      items-push class_members (own_classes (take i ns) (take i cs) vars) (record { name = n; vars = take c.count (drop c.first vars) }),
      so,
      seen,
    ) refl

-- no row at that place
pub past-rows : {A : Type 0} (xs : List A) (i : ℕ) → slice_get xs i ≡ None → length xs ≤ i
past-rows [] i e = omega arith
past-rows (x ∷ xs) zero e = absurd (cc e)
past-rows (x ∷ xs) (suc i) e = omega (arith, past-rows xs i e)

drop-map : {A B : Type 0} (f : A → B) (k : ℕ) (xs : List A) → map f (drop k xs) ≡ drop k (map f xs)
drop-map f zero xs = refl
drop-map f (suc k) [] = refl
drop-map f (suc k) (x ∷ xs) = drop-map f k xs

-- a part of a list, and what it is mapped to
pub part-map : {A B : Type 0} (f : A → B) (k n : ℕ) (xs : List A) → map f (take n (drop k xs)) ≡ take n (drop k (map f xs))
part-map f k n xs = sym (take-map f n (drop k xs)) ∙ ap (take n) (drop-map f k xs)

-- where there are no more rows there is no more class
pub own-cut : (ns : List (List ℕ)) (cs : List ClassRow) (vars : List VarPart) (i : ℕ) → length cs ≤ i → own_classes (take i ns) (take i cs) vars ≡ own_classes ns cs vars
own-cut [] cs vars zero le = refl
own-cut [] cs vars (suc i) le = refl
own-cut (n ∷ ns) [] vars zero le = refl
own-cut (n ∷ ns) [] vars (suc i) le = refl
own-cut (n ∷ ns) (c ∷ cs) vars zero le = absurd (omega (arith, le))
own-cut (n ∷ ns) (c ∷ cs) vars (suc i) le = ap (λ more. (record { name = n; vars = take c.count (drop c.first vars) }) ∷ more) (own-cut ns cs vars i (omega (arith, le)))

-- nor where there are no more names
pub own-end : (ns : List (List ℕ)) (cs : List ClassRow) (vars : List VarPart) (i : ℕ) → length ns ≤ i → own_classes (take i ns) (take i cs) vars ≡ own_classes ns cs vars
own-end [] cs vars zero le = refl
own-end [] cs vars (suc i) le = refl
own-end (n ∷ ns) cs vars zero le = absurd (omega (arith, le))
own-end (n ∷ ns) [] vars (suc i) le = refl
own-end (n ∷ ns) (c ∷ cs) vars (suc i) le = ap (λ more. (record { name = n; vars = take c.count (drop c.first vars) }) ∷ more) (own-end ns cs vars i (omega (arith, le)))

-- the same of names beside rows
pub zip-more : {A B : Type 0} (xs : List A) (ys : List B) (i : ℕ) (x : A) (y : B) → i < length xs → x ≡ get_or xs i x → slice_get ys i ≡ Some y
    → zip (take (i + 1) xs) (take (i + 1) ys) ≡ zip (take i xs) (take i ys) ++ (x, y) ∷ []
zip-more [] ys i x y lt is found = absurd (omega (arith, lt))
zip-more (a ∷ xs) [] i x y lt is found = absurd (cc found)
zip-more (a ∷ xs) (b ∷ ys) zero x y lt is found = ap₂ (λ u v. (u, v) ∷ []) (sym is) (same_Some _ _ found)
zip-more (a ∷ xs) (b ∷ ys) (suc i) x y lt is found =
    let next : suc i + 1 ≡ suc (i + 1) = omega arith in
    rw next (ap (λ more. (a, b) ∷ more) (zip-more xs ys i x y (omega (arith, lt)) is found))

-- there are no more pairs than names
pub zip-short : {A B : Type 0} (xs : List A) (ys : List B) → length (zip xs ys) ≤ length xs
zip-short [] ys = omega arith
zip-short (x ∷ xs) [] = omega arith
zip-short (x ∷ xs) (y ∷ ys) = omega (arith, zip-short xs ys)

pub zip-cut : {A B : Type 0} (xs : List A) (ys : List B) (i : ℕ) → length ys ≤ i → zip (take i xs) (take i ys) ≡ zip xs ys
zip-cut [] ys zero le = refl
zip-cut [] ys (suc i) le = refl
zip-cut (x ∷ xs) [] zero le = refl
zip-cut (x ∷ xs) [] (suc i) le = refl
zip-cut (x ∷ xs) (y ∷ ys) zero le = absurd (omega (arith, le))
zip-cut (x ∷ xs) (y ∷ ys) (suc i) le = ap (λ more. (x, y) ∷ more) (zip-cut xs ys i (omega (arith, le)))

pub zip-end : {A B : Type 0} (xs : List A) (ys : List B) (i : ℕ) → length xs ≤ i → zip (take i xs) (take i ys) ≡ zip xs ys
zip-end [] ys zero le = refl
zip-end [] ys (suc i) le = refl
zip-end (x ∷ xs) ys zero le = absurd (omega (arith, le))
zip-end (x ∷ xs) [] (suc i) le = refl
zip-end (x ∷ xs) (y ∷ ys) (suc i) le = ap (λ more. (x, y) ∷ more) (zip-end xs ys i (omega (arith, le)))

-- each of the first ones, and one more
pub all-more : {A : Type 0} (P : A → Type 0) (xs : List A) (i : ℕ) (x : A) → i < length xs → x ≡ get_or xs i x → AllByRecursion P (take i xs) → P x
    → AllByRecursion P (take (i + 1) xs)
all-more P [] i x lt is all here = absurd (omega (arith, lt))
all-more P (y ∷ xs) zero x lt is all here = (subst P is here, tt)
all-more P (y ∷ xs) (suc i) x lt is all here =
    let next : suc i + 1 ≡ suc (i + 1) = omega arith in
    let both : AllByRecursion P (y ∷ take (i + 1) xs) = (all.0, all-more P xs i x (omega (arith, lt)) is all.1 here) in
    rw next both

-- one of all
pub all-at : {A : Type 0} (P : A → Type 0) (xs : List A) (i : ℕ) (x : A) → i < length xs → x ≡ get_or xs i x → AllByRecursion P xs → P x
all-at P [] i x lt is all = absurd (omega (arith, lt))
all-at P (y ∷ xs) zero x lt is all = subst P (sym is) all.0
all-at P (y ∷ xs) (suc i) x lt is all = all-at P xs i x (omega (arith, lt)) is all.1
