-- Entries in order of their stamps are the only such list of them.
use Rattle.std.proofs.Common.{ℕ, zero, suc, ◌+◌, ◌≤◌, ◌≡◌, ◌==◌, ◌&&◌, ◌⊎◌, ◌∙◌, Bool, cond, List, [], ◌∷◌, ◌++◌, ap, sym, subst, refl, inl, inr, arith}
use Rattle.std.specs.List.{All, AllByRecursion, filter}
use Rattle.std.specs.List.Sorted.{IsPermutation}
use Rattle.std.proofs.lemmas.Bool.{cases_Bool}
use Rattle.std.proofs.lemmas.Bool.Decides.{nat_tests}
use Rattle.std.proofs.lemmas.List.Sorted.{All-permutation, IsPermutation-sym}
use Rattle.std.proofs.lemmas.List.Sums.{sum_by-cons}
use Rattle.pm_base.specs.Stamps.{IsBefore, is_below, stamp_lt}
use Rattle.pm_base.specs.declared.rows.Entry.{Entry}
use Rattle.pm_base.specs.declared.stamp.Line.{Line}
use Rattle.pm_base.specs.declared.stamp.Stamp.{Stamp}
use Rattle.pm_model.specs.Entries.{IsInOrder, run_below}
use Rattle.pm_model.specs.Runs.{sequential_run}
use Rattle.pm_model.proofs.Below.{run-rises}
use Rattle.pm_plan.specs.Plans.{IsValid}
use Rattle.pm_plan.specs.declared.plan.Plan.{Plan}
use Rattle.pm_plan.proofs.Valid.{valid_limits}
use Rattle.pm_sim.specs.Sims.{In}
use Rattle.pm_sim.specs.Worlds.{add_entry, in_order}
use Rattle.pm_sim.proofs.Lists.{each_from, each_in, each_in_order}
use Rattle.pm_trace.specs.Merges.{StandsOnce, times}

-- ---- elements

all_list : {X : Type 0} (P : X → Type 0) (xs : List X) → All P xs → (x : X) → In x xs → P x
all_list P [] a x i = absurd i
all_list P (y ∷ xs) a x (inl e) = subst P (sym e) (a 0 y (omega arith))
all_list P (y ∷ xs) a x (inr i) = all_list P xs (λ k d lt. a (suc k) d (omega arith)) x i

list_all : {X : Type 0} (P : X → Type 0) (xs : List X) → ((x : X) → In x xs → P x) → All P xs
list_all P [] h k d lt = absurd (omega arith)
list_all P (x ∷ xs) h zero d lt = h x (inl refl)
list_all P (x ∷ xs) h (suc k) d lt = list_all P xs (λ y i. h y (inr i)) k d (omega arith)

moved_in : {X : Type 0} (xs ys : List X) → IsPermutation xs ys → (x : X) → In x ys → In x xs
moved_in xs ys p = all_list (λ z. In z xs) ys (All-permutation (λ z. In z xs) xs ys p (list_all (λ z. In z xs) xs (λ x i. i)))

of_all : {X : Type 0} (P : X → Type 0) (xs : List X) (x : X) → AllByRecursion P xs → In x xs → P x
of_all P xs x a i = each_in P xs x a i

-- ---- no stamp is before itself

before_both : (a b : Stamp) → IsBefore a b → IsBefore b a → ⊥
before_both a b (inl x) (inl y) = omega arith
before_both a b (inl x) (inr y) = (let e = y.0 in omega arith)
before_both a b (inr x) (inl y) = (let e = x.0 in omega arith)
before_both a b (inr x) (inr y) = (let e = x.1 in let f = y.1 in omega arith)

before_itself : (a b : Stamp) → a ≡ b → IsBefore a b → ⊥
before_itself a b e h = before_both a b h (subst (λ z. IsBefore z a) e (subst (IsBefore a) (sym e) h))

-- ---- one list

heads : (x y : Entry) (xs ys : List Entry) → IsInOrder (x ∷ xs) → IsInOrder (y ∷ ys) → In x (y ∷ ys) → In y (x ∷ xs)
    → x ≡ y
heads x y xs ys o p (inl e) j = e
heads x y xs ys o p (inr i) (inl e) = sym e
heads x y xs ys o p (inr i) (inr j) =
    absurd (before_both x.stamp y.stamp (of_all (λ (l : Entry). IsBefore x.stamp l.stamp) xs y o.0 j)
    (of_all (λ (l : Entry). IsBefore y.stamp l.stamp) ys x p.0 i))

tails : (x y : Entry) (xs ys : List Entry) → IsInOrder (x ∷ xs) → x ≡ y
    → ((z : Entry) → In z (x ∷ xs) → In z (y ∷ ys)) → (z : Entry) → In z xs → In z ys
tails x y xs ys o e f z i = elim (f z (inr i)) [
  | inl g ↦ absurd (before_itself x.stamp z.stamp (ap (λ (q : Entry). q.stamp) (e ∙ sym g))
      (of_all (λ (l : Entry). IsBefore x.stamp l.stamp) xs z o.0 i))
  | inr j ↦ j
]

pub same_list : (xs ys : List Entry) → IsInOrder xs → IsInOrder ys → ((z : Entry) → In z xs → In z ys)
    → ((z : Entry) → In z ys → In z xs) → xs ≡ ys
same_list [] [] o p f g = refl
same_list [] (y ∷ ys) o p f g = absurd (g y (inl refl))
same_list (x ∷ xs) [] o p f g = absurd (f x (inl refl))
same_list (x ∷ xs) (y ∷ ys) o p f g =
    let e : x ≡ y = heads x y xs ys o p (f x (inl refl)) (g y (inl refl)) in
    let again : xs ≡ ys = same_list xs ys o.1 p.1 (tails x y xs ys o e f) (tails y x ys xs p (sym e) g) in
    ap (λ z. z ∷ xs) e ∙ ap (λ z. y ∷ z) again

-- ---- entries at their places

in_add : (e x : Entry) (ys : List Entry) → (x ≡ e) ⊎ In x ys → In x (add_entry e ys)
in_add e x [] (inl f) = inl f
in_add e x [] (inr i) = absurd i
in_add e x (y ∷ ys) h = elim (cases_Bool (stamp_lt e.stamp y.stamp)) [
  | inl t ↦ rw t (before h)
  | inr t ↦ rw t (behind h (in_add e x ys))
]
  where
    before : (x ≡ e) ⊎ In x (y ∷ ys) → In x (e ∷ (y ∷ ys))
    before (inl f) = inl f
    before (inr i) = inr i

    behind : (x ≡ e) ⊎ In x (y ∷ ys) → ((x ≡ e) ⊎ In x ys → In x (add_entry e ys)) → In x (y ∷ add_entry e ys)
    behind (inl f) again = inr (again (inl f))
    behind (inr (inl g)) again = inl g
    behind (inr (inr i)) again = inr (again (inr i))

in_placed : (x : Entry) (es : List Entry) → In x es → In x (in_order es)
in_placed x [] i = i
in_placed x (e ∷ es) (inl f) = in_add e x (in_order es) (inl f)
in_placed x (e ∷ es) (inr i) = in_add e x (in_order es) (inr (in_placed x es i))

placed_in : (x : Entry) (es : List Entry) → In x (in_order es) → In x es
placed_in x es i = each_in (λ z. In z es) (in_order es) x (each_in_order (λ z. In z es) es (each_from (λ z. In z es) es (λ y j. j))) i

-- ---- how often a stamp stands

abbrev one_of : Stamp → Entry → ℕ
one_of st e = cond (e.stamp.time == st.time && e.stamp.agent == st.agent) 1 0

times_cons : (st : Stamp) (e : Entry) (es : List Entry) → times st (e ∷ es) ≡ one_of st e + times st es
times_cons st e es = sum_by-cons (one_of st) e es

times_add : (st : Stamp) (e : Entry) (ys : List Entry) → times st (add_entry e ys) ≡ one_of st e + times st ys
times_add st e [] = times_cons st e []
times_add st e (y ∷ ys) = elim (cases_Bool (stamp_lt e.stamp y.stamp)) [
  | inl t ↦ rw t (times_cons st e (y ∷ ys))
  | inr t ↦ rw t (let a = times_cons st y (add_entry e ys) in let b = times_add st e ys in let c = times_cons st y ys in
      omega arith)
]

times_placed : (st : Stamp) (es : List Entry) → times st (in_order es) ≡ times st es
times_placed st [] = refl
times_placed st (e ∷ es) =
    let a = times_add st e (in_order es) in let b = times_placed st es in let c = times_cons st e es in omega arith

one_if_same : (st : Stamp) (e : Entry) → (one_of st e ≡ 0) ⊎ (e.stamp ≡ st)
one_if_same st e = elim (cases_Bool (e.stamp.time == st.time && e.stamp.agent == st.agent)) [
  | inl t ↦ inr (let a : e.stamp.time ≡ st.time = grind (arith, nat_tests, t) in
      let b : e.stamp.agent ≡ st.agent = grind (arith, nat_tests, t) in
      ap (λ z. record { time = z; agent = e.stamp.agent }) a ∙ ap (λ z. record { time = st.time; agent = z }) b)
  | inr t ↦ inl (rw t refl)
]

one_most : (st : Stamp) (e : Entry) → one_of st e ≤ 1
one_most st e = elim (cases_Bool (e.stamp.time == st.time && e.stamp.agent == st.agent)) [
  | inl t ↦ rw t (omega arith)
  | inr t ↦ rw t (omega arith)
]

times_none : (st : Stamp) (es : List Entry) → ((e : Entry) → In e es → e.stamp ≡ st → ⊥) → times st es ≡ 0
times_none st [] h = refl
times_none st (e ∷ es) h =
    let again = times_none st es (λ x i. h x (inr i)) in
    let a = times_cons st e es in
    elim (one_if_same st e) [ inl z ↦ omega arith | inr s ↦ absurd (h e (inl refl) s) ]

order_once : (es : List Entry) → IsInOrder es → StandsOnce es
order_once [] o st = omega arith
order_once (e ∷ es) o st =
    let a = times_cons st e es in
    let m = one_most st e in
    elim (one_if_same st e) [
      | inl z ↦ (let again = order_once es o.1 st in omega arith)
      | inr s ↦ (let none = times_none st es (λ x i f. before_itself e.stamp x.stamp (s ∙ sym f)
          (of_all (λ (l : Entry). IsBefore e.stamp l.stamp) es x o.0 i)) in omega arith)
    ]

-- entries that come to be in order stand once each
pub placed_once : (es : List Entry) → IsInOrder (in_order es) → StandsOnce es
placed_once es o st = (let a = times_placed st es in let b = order_once (in_order es) o st in omega arith)

-- and are that list, once they are brought in order
pub placed_same : (es ys : List Entry) → IsInOrder (in_order es) → IsPermutation es ys → IsInOrder ys → ys ≡ in_order es
placed_same es ys o p q = same_list ys (in_order es) q o (λ z i. in_placed z es (moved_in es ys p z i))
    (λ z i. moved_in ys es (IsPermutation-sym es ys p) z (placed_in z es i))

-- ---- a part of the sequential run is in order

order_right : (xs ys : List Entry) → IsInOrder (xs ++ ys) → IsInOrder ys
order_right [] ys o = o
order_right (x ∷ xs) ys o = order_right xs ys o.1

filter_all : (P : Entry → Bool) (Q : Entry → Type 0) (es : List Entry) → AllByRecursion Q es
    → AllByRecursion Q (filter P es)
filter_all P Q [] a = tt
filter_all P Q (e ∷ es) a = elim (cases_Bool (P e)) [
  | inl t ↦ rw t (a.0, filter_all P Q es a.1)
  | inr t ↦ rw t (filter_all P Q es a.1)
]

order_filter : (P : Entry → Bool) (es : List Entry) → IsInOrder es → IsInOrder (filter P es)
order_filter P [] o = tt
order_filter P (e ∷ es) o = elim (cases_Bool (P e)) [
  | inl t ↦ rw t (filter_all P (λ (l : Entry). IsBefore e.stamp l.stamp) es o.0, order_filter P es o.1)
  | inr t ↦ rw t (order_filter P es o.1)
]

pub below_in_order : (p : Plan) (l : Line) → IsValid p → IsInOrder (run_below p l)
unfolding run_below
below_in_order p l valid =
    order_filter (λ (e : Entry). is_below e.stamp l) (sequential_run p) (run-rises p (valid_limits p valid))

-- what follows a part of it too
pub rest_in_order : (p : Plan) (l : Line) (xs ys : List Entry) → IsValid p → run_below p l ≡ xs ++ ys → IsInOrder ys
rest_in_order p l xs ys valid e = order_right xs ys (subst IsInOrder e (below_in_order p l valid))
