-- Lists of receipts: the parts of the processes, and putting in order.
use Rattle.std.proofs.Common.{◌≡◌, ℕ, suc, ◌≤◌, ◌≢◌, ◌⊎◌, Bool, true, false, cond, ◌==◌, List, [], ◌∷◌, ◌++◌, map, length, refl, arith, ap, sym, ◌∙◌, subst}
use Rattle.std.proofs.lemmas.Bool.Decides.{nat_tests}
use Rattle.std.specs.List.{AllByRecursion}
use Rattle.std.specs.Prelude.{if◌then◌else◌}
use Rattle.pm_history.specs.Merged.{Tagged, in_order, is_before, placed}
use Rattle.pm_history.specs.declared.histories.Heard.{Heard}

-- the receipt alone
abbrev pub heard_of : Tagged → Heard
heard_of e = record { clock = e.0; from = e.2 }

-- what is told of process q
abbrev pub part : ℕ → List Tagged → List Heard
part q [] = []
part q (e ∷ es) = if e.1 == q then heard_of e ∷ part q es else part q es

pub same_or : (a b : ℕ) → ((a ≡ b) × ((a == b) ≡ true)) ⊎ ((a ≢ b) × ((a == b) ≡ false))
same_or a b = grind (arith, nat_tests)

pub each_with : {X : Type 0} (P Q : X → Type 0) (xs : List X) → ((x : X) → P x → Q x) → AllByRecursion P xs → AllByRecursion Q xs
each_with P Q [] f a = tt
each_with P Q (x ∷ xs) f a = (f x a.0, each_with P Q xs f a.1)

pub each_append : {X : Type 0} (P : X → Type 0) (xs ys : List X) → AllByRecursion P xs → AllByRecursion P ys → AllByRecursion P (xs ++ ys)
each_append P [] ys a b = b
each_append P (x ∷ xs) ys a b = (a.0, each_append P xs ys a.1 b)

pub each_right : {X : Type 0} (P : X → Type 0) (xs ys : List X) → AllByRecursion P (xs ++ ys) → AllByRecursion P ys
each_right P [] ys a = a
each_right P (x ∷ xs) ys a = each_right P xs ys a.1

pub each_map : {X Y : Type 0} (f : X → Y) (P : Y → Type 0) (xs : List X) → ((x : X) → P (f x)) → AllByRecursion P (map f xs)
each_map f P [] h = tt
each_map f P (x ∷ xs) h = (h x, each_map f P xs h)

abbrev pub FromClock : ℕ → Tagged → Type 0
FromClock n e = n ≤ e.0

abbrev pub HeardFrom : ℕ → Heard → Type 0
HeardFrom n h = n ≤ h.clock

-- clocks that don't fall
abbrev pub InOrder : List Tagged → Type 0
InOrder [] = Unit {0}
InOrder (e ∷ es) = AllByRecursion (FromClock e.0) es × InOrder es

abbrev pub Rising : List Heard → Type 0
Rising [] = Unit {0}
Rising (h ∷ hs) = AllByRecursion (HeardFrom (suc h.clock)) hs × Rising hs

pub each_part : (n q : ℕ) (es : List Tagged) → AllByRecursion (FromClock n) es → AllByRecursion (HeardFrom n) (part q es)
each_part n q [] a = tt
each_part n q (e ∷ es) a = go (e.1 == q) (each_part n q es a.1)
  where
    go : (b : Bool) → AllByRecursion (HeardFrom n) (part q es) → AllByRecursion (HeardFrom n) (cond b (heard_of e ∷ part q es) (part q es))
    go true r = (a.0, r)
    go false r = r

pub each_placed : (P : Tagged → Type 0) (e : Tagged) (xs : List Tagged) → P e → AllByRecursion P xs → AllByRecursion P (placed e xs)
each_placed P e [] p a = (p, tt)
each_placed P e (x ∷ xs) p a = go (is_before x e) (each_placed P e xs p a.1)
  where
    go : (b : Bool) → AllByRecursion P (placed e xs) → AllByRecursion P (cond b (x ∷ placed e xs) (e ∷ (x ∷ xs)))
    go true r = (a.0, r)
    go false r = (p, a)

pub each_in_order : (P : Tagged → Type 0) (xs : List Tagged) → AllByRecursion P xs → AllByRecursion P (in_order xs)
each_in_order P [] a = tt
each_in_order P (x ∷ xs) a = each_placed P x (in_order xs) a.0 (each_in_order P xs a.1)

pub length_placed : (e : Tagged) (xs : List Tagged) → length (placed e xs) ≡ suc (length xs)
length_placed e [] = refl
length_placed e (x ∷ xs) = go (is_before x e) (length_placed e xs)
  where
    go : (b : Bool) → length (placed e xs) ≡ suc (length xs) → length (cond b (x ∷ placed e xs) (e ∷ (x ∷ xs))) ≡ suc (length (x ∷ xs))
    go true r = ap suc r
    go false r = refl

pub length_in_order : (xs : List Tagged) → length (in_order xs) ≡ length xs
length_in_order [] = refl
length_in_order (x ∷ xs) = length_placed x (in_order xs) ∙ ap suc (length_in_order xs)

before_clock : (x e : Tagged) → is_before x e ≡ true → x.0 ≤ e.0
before_clock x e h = grind (arith, nat_tests)

not_before_clock : (x e : Tagged) → is_before x e ≡ false → e.0 ≤ x.0
not_before_clock x e h = grind (arith, nat_tests)

pub placed_in_order : (e : Tagged) (xs : List Tagged) → InOrder xs → InOrder (placed e xs)
placed_in_order e [] o = (tt, tt)
placed_in_order e (x ∷ xs) o = go (is_before x e) refl (placed_in_order e xs o.1)
  where
    go : (b : Bool) → is_before x e ≡ b → InOrder (placed e xs) → InOrder (cond b (x ∷ placed e xs) (e ∷ (x ∷ xs)))
    go true h r = (each_placed (FromClock x.0) e xs (before_clock x e h) o.0, r)
    go false h r =
        let low : e.0 ≤ x.0 = not_before_clock x e h in
        ((low, each_with (FromClock x.0) (FromClock e.0) xs (λ y k. omega (arith, k, low)) o.0), o)

pub in_order_is : (xs : List Tagged) → InOrder (in_order xs)
in_order_is [] = tt
in_order_is (x ∷ xs) = placed_in_order x (in_order xs) (in_order_is xs)

no_swap : (x e : Tagged) (q : ℕ) → is_before x e ≡ true → e.1 ≡ q → x.1 ≡ q → suc e.0 ≤ x.0 → ⊥
no_swap x e q h i j k = grind (arith, nat_tests)

eqb_is : (a b : ℕ) → (a == b) ≡ true → a ≡ b
eqb_is a b h = grind (arith, nat_tests)

part_swap : (q : ℕ) (e x : Tagged) (xs : List Tagged) (eq xq : Bool) → is_before x e ≡ true → (e.1 == q) ≡ eq → (x.1 == q) ≡ xq
    → (e.1 ≡ q → AllByRecursion (HeardFrom (suc e.0)) (cond xq (heard_of x ∷ part q xs) (part q xs)))
    → ((e.1 ≡ q → AllByRecursion (HeardFrom (suc e.0)) (part q xs)) → part q (placed e xs) ≡ cond eq (heard_of e ∷ part q xs) (part q xs))
    → cond xq (heard_of x ∷ part q (placed e xs)) (part q (placed e xs)) ≡ cond eq (heard_of e ∷ cond xq (heard_of x ∷ part q xs) (part q xs)) (cond xq (heard_of x ∷ part q xs) (part q xs))
part_swap q e x xs true true b i j low rec = absurd (no_swap x e q b (eqb_is e.1 q i) (eqb_is x.1 q j) (low (eqb_is e.1 q i)).0)
part_swap q e x xs true false b i j low rec = rec low
part_swap q e x xs false true b i j low rec = ap (λ z. heard_of x ∷ z) (rec (λ k. (low k).1))
part_swap q e x xs false false b i j low rec = rec low

-- putting a receipt in its place changes no process's own order
pub part_placed : (q : ℕ) (e : Tagged) (xs : List Tagged) → (e.1 ≡ q → AllByRecursion (HeardFrom (suc e.0)) (part q xs)) → part q (placed e xs) ≡ part q (e ∷ xs)
part_placed q e [] low = refl
part_placed q e (x ∷ xs) low = go (is_before x e) refl (part_placed q e xs)
  where
    go : (b : Bool) → is_before x e ≡ b → ((e.1 ≡ q → AllByRecursion (HeardFrom (suc e.0)) (part q xs)) → part q (placed e xs) ≡ part q (e ∷ xs))
        → part q (cond b (x ∷ placed e xs) (e ∷ (x ∷ xs))) ≡ part q (e ∷ (x ∷ xs))
    go true h rec = part_swap q e x xs (e.1 == q) (x.1 == q) h refl refl low rec
    go false h rec = refl

pub part_in_order : (q : ℕ) (xs : List Tagged) → Rising (part q xs) → part q (in_order xs) ≡ part q xs
part_in_order q [] r = refl
part_in_order q (e ∷ es) r =
    let known = go (e.1 == q) refl r in
    let again : part q (in_order es) ≡ part q es = part_in_order q es known.1 in
    part_placed q e (in_order es) (λ i. subst (λ (z : List Heard). AllByRecursion (HeardFrom (suc e.0)) z) (sym again) (known.0 i))
    ∙ ap (λ (z : List Heard). cond (e.1 == q) (heard_of e ∷ z) z) again
  where
    go : (b : Bool) → (e.1 == q) ≡ b → Rising (cond b (heard_of e ∷ part q es) (part q es)) → (e.1 ≡ q → AllByRecursion (HeardFrom (suc e.0)) (part q es)) × Rising (part q es)
    go true h k = ((λ i. k.0), k.1)
    go false h k = ((λ i. absurd (grind (arith, nat_tests, h, i))), k)
