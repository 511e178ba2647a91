-- The queries of all classes in one order: what a new query, a filter, a change and a class are there.
use Rattle.std.proofs.Common.{◌≡◌, ℕ, zero, suc, ◌+◌, ◌<◌, inl, inr, Bool, true, false, cond, ◌||◌, ◌==◌, List, [], ◌∷◌, length, get_or, set, map, filter, refl, arith, ap, ap₂, sym, ◌∙◌, subst}
use Rattle.std.specs.List.{AllByRecursion}
use Rattle.std.proofs.lemmas.Bool.{cases_Bool, or_parts}
use Rattle.std.proofs.lemmas.Bool.Decides.{nat_tests}
use Rattle.pm_base.specs.Stamps.{num_eq}
use Rattle.pm_base.specs.declared.stamp.Num.{Num}
use Rattle.pm_periods.specs.Rows.{IsInOrder, key_lt}
use Rattle.pm_periods.proofs.Keys.{key_lt-asym, key_lt-up_to, num_eq-flip}
use Rattle.pm_periods.proofs.Ordered.{each_filter, filter_all}
use Rattle.pm_queries.specs.Queries.{add_reg, class_queries, has_reg, registered_key}
use Rattle.pm_queries.specs.Laid.{AllRise, IsRising, OwnFrom, add_regs, merged}
use Rattle.pm_queries.specs.declared.registered.Registered.{Registered}
use Rattle.pm_queries.proofs.Rows.{add_reg-in_order, key_lt-trans, lt, other_after, rising-in_order}

-- ---- two new queries, in either order

add_front_of : (r x : Registered) (xs : List Registered) → lt r x ≡ true → add_reg r (x ∷ xs) ≡ r ∷ (x ∷ xs)
add_front_of r x xs e = rw e refl

add_behind : (r x : Registered) (xs : List Registered) → lt r x ≡ false → add_reg r (x ∷ xs) ≡ x ∷ add_reg r xs
add_behind r x xs e = rw e refl

swap_lt : (r s : Registered) (xs : List Registered)
    → lt r s ≡ true → add_reg r (add_reg s xs) ≡ add_reg s (add_reg r xs)
swap_lt r s [] e = add_front_of r s [] e ∙ sym (add_behind s r [] (key_lt-asym (registered_key r) (registered_key s) e))
swap_lt r s (x ∷ xs) e =
    let f : lt s r ≡ false = key_lt-asym (registered_key r) (registered_key s) e in
    elim (cases_Bool (lt s x)) [
      | inl g ↦
          let h : lt r x ≡ true = key_lt-trans (registered_key r) (registered_key s) (registered_key x) e g in
          (ap (add_reg r) (add_front_of s x xs g) ∙ add_front_of r s (x ∷ xs) e)
          ∙ sym (ap (add_reg s) (add_front_of r x xs h)
          ∙ (add_behind s r (x ∷ xs) f ∙ ap (λ z. r ∷ z) (add_front_of s x xs g)))
      | inr g ↦ elim (cases_Bool (lt r x)) [
        | inl h ↦
            (ap (add_reg r) (add_behind s x xs g) ∙ add_front_of r x (add_reg s xs) h)
            ∙ sym (ap (add_reg s) (add_front_of r x xs h)
            ∙ (add_behind s r (x ∷ xs) f ∙ ap (λ z. r ∷ z) (add_behind s x xs g)))
        | inr h ↦
            (ap (add_reg r) (add_behind s x xs g)
            ∙ (add_behind r x (add_reg s xs) h ∙ ap (λ z. x ∷ z) (swap_lt r s xs e)))
            ∙ sym (ap (add_reg s) (add_behind r x xs h) ∙ add_behind s x (add_reg r xs) g)
      ]
    ]

pub add_reg-swap : (r s : Registered) (xs : List Registered)
    → num_eq r.num s.num ≡ false → add_reg r (add_reg s xs) ≡ add_reg s (add_reg r xs)
add_reg-swap r s xs n = elim (cases_Bool (lt r s)) [
  | inl e ↦ swap_lt r s xs e
  | inr e ↦ sym (swap_lt s r xs (other_after (registered_key s) (registered_key r) e n))
]

pub add_regs-add : (r : Registered) (c done : List Registered)
    → has_reg r.num c ≡ false → add_regs c (add_reg r done) ≡ add_reg r (add_regs c done)
add_regs-add r [] done f = refl
add_regs-add r (x ∷ xs) done f =
    let o = or_parts (num_eq r.num x.num) (has_reg r.num xs) f in
    ap (add_reg x) (add_regs-add r xs done o.1) ∙ add_reg-swap x r (add_regs xs done) (num_eq-flip r.num x.num o.0)

pub add_regs-new : (r : Registered) (c done : List Registered)
    → has_reg r.num c ≡ false → add_regs (add_reg r c) done ≡ add_reg r (add_regs c done)
add_regs-new r [] done f = refl
add_regs-new r (x ∷ xs) done f =
    let o = or_parts (num_eq r.num x.num) (has_reg r.num xs) f in
    elim (cases_Bool (lt r x)) [
      | inl e ↦ rw e refl
      | inr e ↦ rw e (ap (add_reg x) (add_regs-new r xs done o.1)
          ∙ add_reg-swap x r (add_regs xs done) (num_eq-flip r.num x.num o.0))
    ]

-- ---- numbers

or_swap : (a b c : Bool) → (a || (b || c)) ≡ (b || (a || c))
or_swap true true c = refl
or_swap true false c = refl
or_swap false true c = refl
or_swap false false c = refl

or_assoc : (a b c : Bool) → (a || (b || c)) ≡ ((a || b) || c)
or_assoc true b c = refl
or_assoc false b c = refl

pub has_reg-add : (n : Num) (r : Registered) (xs : List Registered)
    → has_reg n (add_reg r xs) ≡ (num_eq n r.num || has_reg n xs)
has_reg-add n r [] = refl
has_reg-add n r (x ∷ xs) = (let again = has_reg-add n r xs in elim (cases_Bool (lt r x)) [
  | inl e ↦ rw e refl
  | inr e ↦ rw e (ap (λ z. num_eq n x.num || z) again ∙ or_swap (num_eq n x.num) (num_eq n r.num) (has_reg n xs))
])

pub has_reg-adds : (n : Num) (c done : List Registered) → has_reg n (add_regs c done) ≡ (has_reg n c || has_reg n done)
has_reg-adds n [] done = refl
has_reg-adds n (x ∷ xs) done =
    has_reg-add n x (add_regs xs done) ∙ (ap (λ z. num_eq n x.num || z) (has_reg-adds n xs done)
    ∙ or_assoc (num_eq n x.num) (has_reg n xs) (has_reg n done))

-- a new query of a class is a new query of all
pub merged-new : (r : Registered) (k : ℕ) (cs : List (List Registered))
    → k < length cs → has_reg r.num (merged cs) ≡ false
    → merged (set cs k (add_reg r (get_or cs k []))) ≡ add_reg r (merged cs)
merged-new r k [] low f = absurd (omega (arith, low))
merged-new r zero (c ∷ cs) low f =
    let o = or_parts (has_reg r.num c) (has_reg r.num (merged cs)) (sym (has_reg-adds r.num c (merged cs)) ∙ f) in
    add_regs-new r c (merged cs) o.0
merged-new r (suc k) (c ∷ cs) low f =
    let o = or_parts (has_reg r.num c) (has_reg r.num (merged cs)) (sym (has_reg-adds r.num c (merged cs)) ∙ f) in
    ap (add_regs c) (merged-new r k cs (omega (arith, low)) o.1) ∙ add_regs-add r c (merged cs) o.0

-- the number isn't in a class either
pub has_reg-class : (n : Num) (k : ℕ) (cs : List (List Registered))
    → has_reg n (merged cs) ≡ false → has_reg n (get_or cs k []) ≡ false
has_reg-class n k [] f = refl
has_reg-class n zero (c ∷ cs) f =
    (or_parts (has_reg n c) (has_reg n (merged cs)) (sym (has_reg-adds n c (merged cs)) ∙ f)).0
has_reg-class n (suc k) (c ∷ cs) f =
    has_reg-class n k cs (or_parts (has_reg n c) (has_reg n (merged cs)) (sym (has_reg-adds n c (merged cs)) ∙ f)).1

-- ---- filters

add_front : (r : Registered) (xs : List Registered) → AllByRecursion (λ y. lt r y ≡ true) xs → add_reg r xs ≡ r ∷ xs
add_front r [] a = refl
add_front r (x ∷ xs) a = (let e : lt r x ≡ true = a.0 in rw e refl)

after_all : (r x : Registered) (xs : List Registered)
    → lt r x ≡ true → AllByRecursion (λ y. lt y x ≡ false) xs → AllByRecursion (λ y. lt r y ≡ true) xs
after_all r x [] e a = tt
after_all r x (y ∷ ys) e a =
    (key_lt-up_to (registered_key r) (registered_key x) (registered_key y) e a.0, after_all r x ys e a.1)

pub filter-add_reg : (p : Registered → Bool) (r : Registered) (xs : List Registered) → IsInOrder registered_key xs
    → filter p (add_reg r xs) ≡ cond (p r) (add_reg r (filter p xs)) (filter p xs)
filter-add_reg p r [] o = refl
filter-add_reg p r (x ∷ xs) o = elim (cases_Bool (lt r x)) [
  | inl e ↦
      let front : add_reg r (filter p (x ∷ xs)) ≡ r ∷ filter p (x ∷ xs) =
      add_front r (filter p (x ∷ xs)) (each_filter (λ y. lt r y ≡ true) p (x ∷ xs) (e, after_all r x xs e o.0)) in
      rw e (ap (λ z. cond (p r) z (filter p (x ∷ xs))) (sym front))
  | inr e ↦ rw e (ap (λ z. cond (p x) (x ∷ z) z) (filter-add_reg p r xs o.1) ∙ by (p x) (p r) (filter p xs) e)
]
  where
    by : (b a : Bool) (ys : List Registered) → lt r x ≡ false
        → cond b (x ∷ cond a (add_reg r ys) ys) (cond a (add_reg r ys) ys)
        ≡ cond a (add_reg r (cond b (x ∷ ys) ys)) (cond b (x ∷ ys) ys)
    by true true ys e = rw e refl
    by true false ys e = refl
    by false true ys e = refl
    by false false ys e = refl

pub add_regs-in_order : (c done : List Registered)
    → IsInOrder registered_key done → IsInOrder registered_key (add_regs c done)
add_regs-in_order [] done o = o
add_regs-in_order (r ∷ rs) done o = add_reg-in_order r (add_regs rs done) (add_regs-in_order rs done o)

pub merged-in_order : (cs : List (List Registered)) → IsInOrder registered_key (merged cs)
merged-in_order [] = tt
merged-in_order (c ∷ cs) = add_regs-in_order c (merged cs) (merged-in_order cs)

pub filter-add_regs : (p : Registered → Bool) (c done : List Registered)
    → IsInOrder registered_key done → filter p (add_regs c done) ≡ add_regs (filter p c) (filter p done)
filter-add_regs p [] done o = refl
filter-add_regs p (r ∷ rs) done o =
    filter-add_reg p r (add_regs rs done) (add_regs-in_order rs done o)
    ∙ (ap (λ z. cond (p r) (add_reg r z) z) (filter-add_regs p rs done o) ∙ by (p r) (filter p rs))
  where
    by : (b : Bool) (ys : List Registered)
        → cond b (add_reg r (add_regs ys (filter p done))) (add_regs ys (filter p done))
        ≡ add_regs (cond b (r ∷ ys) ys) (filter p done)
    by true ys = refl
    by false ys = refl

pub filter-merged : (p : Registered → Bool) (cs : List (List Registered))
    → filter p (merged cs) ≡ merged (map (filter p) cs)
filter-merged p [] = refl
filter-merged p (c ∷ cs) =
    filter-add_regs p c (merged cs) (merged-in_order cs) ∙ ap (add_regs (filter p c)) (filter-merged p cs)

-- ---- classes

add_regs-nothing : (c : List Registered) → IsRising c → add_regs c [] ≡ c
add_regs-nothing [] r = refl
add_regs-nothing (x ∷ xs) r = ap (add_reg x) (add_regs-nothing xs r.1) ∙ add_front x xs r.0

own-all : (k : ℕ) (c : List Registered) → AllByRecursion (λ (r : Registered). r.class ≡ k) c → class_queries k c ≡ c
own-all k [] a = refl
own-all k (x ∷ xs) a = (let is =
    a.0 in let e : (k == x.class) ≡ true = grind (arith, nat_tests, is) in rw e (ap (λ z. x ∷ z) (own-all k xs a.1)))

own-none : (k j : ℕ) (c : List Registered)
    → k < j → AllByRecursion (λ (r : Registered). r.class ≡ j) c → class_queries k c ≡ []
own-none k j [] low a = refl
own-none k j (x ∷ xs) low a =
    (let is = a.0 in let e : (k == x.class) ≡ false = grind (arith, nat_tests, is) in rw e (own-none k j xs low a.1))

own-other : (k j : ℕ) (c : List Registered)
    → j < k → AllByRecursion (λ (r : Registered). r.class ≡ j) c → class_queries k c ≡ []
own-other k j [] low a = refl
own-other k j (x ∷ xs) low a =
    (let is = a.0 in let e : (k == x.class) ≡ false = grind (arith, nat_tests, is) in rw e (own-other k j xs low a.1))

class-none : (k j : ℕ) (cs : List (List Registered)) → k < j → OwnFrom j cs → class_queries k (merged cs) ≡ []
class-none k j [] low o = refl
class-none k j (c ∷ cs) low o =
    filter-add_regs (λ (r : Registered). k == r.class) c (merged cs) (merged-in_order cs)
    ∙ ap₂ add_regs (own-none k j c low o.0) (class-none k (suc j) cs (omega arith) o.1)

class-from : (i m : ℕ) (cs : List (List Registered))
    → OwnFrom i cs → AllRise cs → class_queries (i + m) (merged cs) ≡ get_or cs m []
class-from i m [] o s = refl
class-from i zero (c ∷ cs) o s =
    let e : i + 0 ≡ i = omega arith in
    subst (λ k. class_queries k (merged (c ∷ cs)) ≡ c) (sym e)
    (filter-add_regs (λ (r : Registered). i == r.class) c (merged cs) (merged-in_order cs)
    ∙ (ap₂ add_regs (own-all i c o.0) (class-none i (suc i) cs (omega arith) o.1) ∙ add_regs-nothing c s.0))
class-from i (suc m) (c ∷ cs) o s =
    let e : i + suc m ≡ suc i + m = omega arith in
    filter-add_regs (λ (r : Registered). i + suc m == r.class) c (merged cs) (merged-in_order cs)
    ∙ (ap (λ z. add_regs z (class_queries (i + suc m) (merged cs))) (own-other (i + suc m) i c (omega arith) o.0)
    ∙ (ap (λ k. class_queries k (merged cs)) e ∙ class-from (suc i) m cs o.1 s.1))

-- the queries of a class, among all, are those that were laid out for it
pub class-merged : (k : ℕ) (cs : List (List Registered))
    → OwnFrom 0 cs → AllRise cs → class_queries k (merged cs) ≡ get_or cs k []
class-merged k cs o s =
    (let e : 0 + k ≡ k = omega arith in ap (λ j. class_queries j (merged cs)) (sym e) ∙ class-from 0 k cs o s)

-- ---- changes that leave each query in its place

module _ (g : Registered → Registered) where
  pub map-add_reg : ((r : Registered) → registered_key (g r) ≡ registered_key r)
      → (r : Registered) (xs : List Registered) → map g (add_reg r xs) ≡ add_reg (g r) (map g xs)
  map-add_reg kept r [] = refl
  map-add_reg kept r (x ∷ xs) =
      let same : lt (g r) (g x) ≡ lt r x = ap₂ (λ a b. key_lt a b) (kept r) (kept x) in
      elim (cases_Bool (lt r x)) [
        | inl e ↦ (let f : lt (g r) (g x) ≡ true = same ∙ e in rw (e, f) refl)
        | inr e ↦ (let f : lt (g r) (g x) ≡ false = same ∙ e in rw (e, f) (ap (λ z. g x ∷ z) (map-add_reg kept r xs)))
      ]

  pub map-add_regs : ((r : Registered) → registered_key (g r) ≡ registered_key r)
      → (c done : List Registered) → map g (add_regs c done) ≡ add_regs (map g c) (map g done)
  map-add_regs kept [] done = refl
  map-add_regs kept (r ∷ rs) done =
      map-add_reg kept r (add_regs rs done) ∙ ap (add_reg (g r)) (map-add_regs kept rs done)

  pub map-merged : ((r : Registered) → registered_key (g r) ≡ registered_key r)
      → (cs : List (List Registered)) → map g (merged cs) ≡ merged (map (map g) cs)
  map-merged kept [] = refl
  map-merged kept (c ∷ cs) = map-add_regs kept c (merged cs) ∙ ap (add_regs (map g c)) (map-merged kept cs)

  map_others : (k j : ℕ) (cs : List (List Registered))
      → k < j → ((r : Registered) → (r.class ≡ k → ⊥) → g r ≡ r) → OwnFrom j cs → map (map g) cs ≡ cs
  map_others k j [] low other o = refl
  map_others k j (c ∷ cs) low other o = ap₂ (λ a b. a ∷ b) (row c o.0) (map_others k (suc j) cs (omega arith) other o.1)
    where
      row : (xs : List Registered) → AllByRecursion (λ (r : Registered). r.class ≡ j) xs → map g xs ≡ xs
      row [] a = refl
      row (x ∷ xs) a = ap₂ (λ y ys. y ∷ ys) (other x (λ e. omega (arith, a.0, e, low))) (row xs a.1)

  set_from : (i m : ℕ) (cs : List (List Registered))
      → ((r : Registered) → (r.class ≡ i + m → ⊥) → g r ≡ r) → OwnFrom i cs
      → set cs m (map g (get_or cs m [])) ≡ map (map g) cs
  set_from i m [] other o = refl
  set_from i zero (c ∷ cs) other o = ap
      (λ z. map g c ∷ z) (sym (map_others i (suc i) cs (omega arith) (λ r n. other r (λ e. n (omega (arith, e)))) o.1))
  set_from i (suc m) (c ∷ cs) other o =
      ap₂ (λ a b. a ∷ b) (sym (row c o.0)) (set_from (suc i) m cs (λ r n. other r (λ e. n (omega (arith, e)))) o.1)
    where
      row : (xs : List Registered) → AllByRecursion (λ (r : Registered). r.class ≡ i) xs → map g xs ≡ xs
      row [] a = refl
      row (x ∷ xs) a = ap₂ (λ y ys. y ∷ ys) (other x (λ e. omega (arith, a.0, e))) (row xs a.1)

  -- a change of the queries of one class, and of no others
  pub merged-class : (k : ℕ) (cs : List (List Registered))
      → ((r : Registered) → registered_key (g r) ≡ registered_key r)
      → ((r : Registered) → (r.class ≡ k → ⊥) → g r ≡ r)
      → OwnFrom 0 cs → merged (set cs k (map g (get_or cs k []))) ≡ map g (merged cs)
  merged-class k cs kept other o =
      ap merged (set_from 0 k cs (λ r n. other r (λ e. n (omega (arith, e)))) o) ∙ sym (map-merged kept cs)
