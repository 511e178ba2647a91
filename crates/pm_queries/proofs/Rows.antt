-- Queries of one class, in order: where one stands, and what a new one leaves.
use Rattle.std.proofs.Common.{◌≡◌, ℕ, zero, suc, ◌<◌, ◌≤◌, inl, inr, Bool, true, false, not, ◌||◌, List, [], ◌∷◌, ◌++◌, length, get_or, take, drop, filter, cond, refl, arith, ap, sym, ◌∙◌, subst}
use Rattle.std.specs.List.{AllByRecursion, AllWithin}
use Rattle.std.proofs.lemmas.Bool.{cases_Bool, cond_both, false≢true, or_parts}
use Rattle.std.proofs.lemmas.Bool.Decides.{nat_tests}
use Rattle.pm_base.specs.Stamps.{is_below, num_eq}
use Rattle.pm_base.specs.declared.stamp.Line.{Line}
use Rattle.pm_base.specs.declared.stamp.Line.TheVariants as line
use Rattle.pm_base.specs.declared.stamp.Num.{Num}
use Rattle.pm_periods.specs.Rows.{AreDistinct, IsInOrder, add_row, has_num, key_lt}
use Rattle.pm_periods.specs.declared.rows.RowKey.{RowKey}
use Rattle.pm_periods.proofs.Keys.{key_lt-asym, key_lt-up_to}
use Rattle.pm_periods.proofs.Ordered.{add_row-distinct, add_row-in_order, each_filter, up_to_middle}
use Rattle.pm_queries.specs.Queries.{add_reg, has_reg, not_below, registered_key}
use Rattle.pm_queries.specs.Laid.{IsRising, before, up_to}
use Rattle.pm_queries.specs.declared.registered.Registered.{Registered}

abbrev pub lt : Registered → Registered → Bool
lt a b = key_lt (registered_key a) (registered_key b)

-- ---- keys

pub key_lt-trans : (a b c : RowKey) → key_lt a b ≡ true → key_lt b c ≡ true → key_lt a c ≡ true
key_lt-trans a b c e f = key_lt-up_to a b c e (key_lt-asym b c f)

pub key_lt-self : (a : RowKey) → key_lt a a ≡ false
key_lt-self a = elim (cases_Bool (key_lt a a)) [ inr e ↦ e | inl e ↦ absurd (false≢true (sym (key_lt-asym a a e) ∙ e)) ]

-- one that doesn't stand before another of another number stands behind it
pub other_after : (a b : RowKey) → key_lt b a ≡ false → num_eq b.num a.num ≡ false → key_lt a b ≡ true
other_after a b e f = grind (arith, nat_tests, e, f)

-- ---- as rows of a record

pub add_reg-row : (r : Registered) (xs : List Registered) → add_reg r xs ≡ add_row registered_key r xs
add_reg-row r [] = refl
add_reg-row r (x ∷ xs) = ap (λ z. cond (lt r x) (r ∷ (x ∷ xs)) (x ∷ z)) (add_reg-row r xs)

pub has_reg-num : (n : Num) (xs : List Registered) → has_reg n xs ≡ has_num registered_key n xs
has_reg-num n [] = refl
has_reg-num n (x ∷ xs) = ap (λ z. num_eq n x.num || z) (has_reg-num n xs)

pub add_reg-in_order : (r : Registered) (xs : List Registered)
    → IsInOrder registered_key xs → IsInOrder registered_key (add_reg r xs)
add_reg-in_order r xs o =
    subst (IsInOrder registered_key) (sym (add_reg-row r xs)) (add_row-in_order registered_key r xs o)

pub add_reg-distinct : (r : Registered) (xs : List Registered)
    → has_reg r.num xs ≡ false → AreDistinct registered_key xs → AreDistinct registered_key (add_reg r xs)
add_reg-distinct r xs f d =
    subst (AreDistinct registered_key)
    (sym (add_reg-row r xs)) (add_row-distinct registered_key r xs (sym (has_reg-num r.num xs) ∙ f) d)

-- ---- rising lists

rising_lower : (x : Registered) (xs : List Registered)
    → AllByRecursion (λ y. lt x y ≡ true) xs → AllByRecursion (λ y. lt y x ≡ false) xs
rising_lower x [] a = tt
rising_lower x (y ∷ ys) a = (key_lt-asym (registered_key x) (registered_key y) a.0, rising_lower x ys a.1)

pub rising-in_order : (xs : List Registered) → IsRising xs → IsInOrder registered_key xs
rising-in_order [] r = tt
rising-in_order (x ∷ xs) r = (rising_lower x xs r.0, rising-in_order xs r.1)

pub rising-filter : (p : Registered → Bool) (xs : List Registered) → IsRising xs → IsRising (filter p xs)
rising-filter p [] r = tt
rising-filter p (x ∷ xs) r =
    let again = rising-filter p xs r.1 in
    cond_both (p x)
    (x ∷ filter p xs) (filter p xs) IsRising (λ _. (each_filter (λ y. lt x y ≡ true) p xs r.0, again)) (λ _. again)

pub before_all : (r x : Registered) (xs : List Registered)
    → lt r x ≡ true → AllByRecursion (λ y. lt x y ≡ true) xs → AllByRecursion (λ y. lt r y ≡ true) xs
before_all r x [] e a = tt
before_all r x (y ∷ ys) e a =
    (key_lt-trans (registered_key r) (registered_key x) (registered_key y) e a.0, before_all r x ys e a.1)

each_add : (Q : Registered → Type 0) (r : Registered) (xs : List Registered)
    → Q r → AllByRecursion Q xs → AllByRecursion Q (add_reg r xs)
each_add Q r [] e a = (e, tt)
each_add Q r (y ∷ ys) e a =
    let again = each_add Q r ys e a.1 in
    cond_both (lt r y) (r ∷ (y ∷ ys)) (y ∷ add_reg r ys) (AllByRecursion Q) (λ _. (e, a)) (λ _. (a.0, again))

pub own_add : (k : ℕ) (r : Registered) (xs : List Registered)
    → r.class ≡ k → AllByRecursion (λ (x : Registered). x.class ≡ k) xs
    → AllByRecursion (λ (x : Registered). x.class ≡ k) (add_reg r xs)
own_add k r xs e a = each_add (λ (x : Registered). x.class ≡ k) r xs e a

pub rising-add : (r : Registered) (xs : List Registered)
    → has_reg r.num xs ≡ false → IsRising xs → IsRising (add_reg r xs)
rising-add r [] f s = (tt, tt)
rising-add r (x ∷ xs) f s =
    let o = or_parts (num_eq r.num x.num) (has_reg r.num xs) f in
    let again = rising-add r xs o.1 s.1 in
    cond_both (lt r x) (r ∷ (x ∷ xs)) (x ∷ add_reg r xs) IsRising
    (λ e. ((e, before_all r x xs e s.0), s))
    (λ e. (each_add (λ y. lt x y ≡ true) r xs (other_after (registered_key x) (registered_key r) e o.0) s.0, again))

-- ---- the place of a new query, and of one that is there

pub add_reg-at : (r : Registered) (xs : List Registered) (i : ℕ)
    → i ≡ up_to (registered_key r) xs → add_reg r xs ≡ take i xs ++ r ∷ drop i xs
add_reg-at r xs i e = go xs ∙ ap (λ j. take j xs ++ r ∷ drop j xs) (sym e)
  where
    go : (ys : List Registered)
        → add_reg r ys ≡ take (up_to (registered_key r) ys) ys ++ r ∷ drop (up_to (registered_key r) ys) ys
    go [] = refl
    go (y ∷ ys) = elim (cases_Bool (lt r y)) [
      | inl f ↦ rw f refl
      | inr f ↦ rw f (ap (λ z. y ∷ z) (go ys))
    ]

not-true : (b : Bool) → not b ≡ true → b ≡ false
not-true true e = absurd (false≢true e)
not-true false e = refl

not-false : (b : Bool) → not b ≡ false → b ≡ true
not-false true e = refl
not-false false e = absurd (false≢true (sym e))

pub up_to-parted : (k : RowKey) (xs : List Registered)
    → IsInOrder registered_key xs → (i j : ℕ) (d : Registered) → i ≤ j → j < length xs
    → not (key_lt k (registered_key (get_or xs j d))) ≡ true → not (key_lt k (registered_key (get_or xs i d))) ≡ true
up_to-parted k xs o i j d le low h = ap not (up_to_middle registered_key k xs i j d d o low (not-true _ h) le)

pub up_to-point : (k : RowKey) (xs : List Registered) (i : ℕ)
    → i ≤ length xs → AllWithin (λ x. not (key_lt k (registered_key x)) ≡ true) xs 0 i
    → AllWithin (λ x. not (key_lt k (registered_key x)) ≡ false) xs i (length xs) → i ≡ up_to k xs
up_to-point k [] i le first last = omega (arith, le)
up_to-point k (x ∷ xs) zero le first last = (let h = not-false _ (last 0 x (omega arith) (omega arith)) in rw h refl)
up_to-point k (x ∷ xs) (suc i) le first last =
    let h = not-true _ (first 0 x (omega arith) (omega arith)) in
    rw h (ap suc (up_to-point k xs i (omega (arith, le)) (λ j d lo hi. first (suc j) d
    (omega (arith, lo)) (omega (arith, hi))) (λ j d lo hi. last (suc j) d (omega (arith, lo)) (omega (arith, hi)))))

pub before-parted : (k : RowKey) (xs : List Registered)
    → IsInOrder registered_key xs → (i j : ℕ) (d : Registered) → i ≤ j → j < length xs
    → key_lt (registered_key (get_or xs j d)) k ≡ true → key_lt (registered_key (get_or xs i d)) k ≡ true
before-parted k xs o i j d le low h =
    let a = registered_key (get_or xs i d) in
    let b = registered_key (get_or xs j d) in
    let e : key_lt b a ≡ false = up_to_middle registered_key b xs i j d d o low (key_lt-self b) le in
    elim (cases_Bool (key_lt a k)) [ inl g ↦ g | inr g ↦ absurd (false≢true (sym e ∙ key_lt-up_to b k a h g)) ]

pub before-point : (k : RowKey) (xs : List Registered) (i : ℕ)
    → i ≤ length xs → AllWithin (λ x. key_lt (registered_key x) k ≡ true) xs 0 i
    → AllWithin (λ x. key_lt (registered_key x) k ≡ false) xs i (length xs) → i ≡ before k xs
before-point k [] i le first last = omega (arith, le)
before-point k (x ∷ xs) zero le first last =
    (let h : key_lt (registered_key x) k ≡ false = last 0 x (omega arith) (omega arith) in rw h refl)
before-point k (x ∷ xs) (suc i) le first last =
    let h : key_lt (registered_key x) k ≡ true = first 0 x (omega arith) (omega arith) in
    rw h (ap suc (before-point k xs i (omega (arith, le)) (λ j d lo hi. first (suc j) d
    (omega (arith, lo)) (omega (arith, hi))) (λ j d lo hi. last (suc j) d (omega (arith, lo)) (omega (arith, hi)))))

-- ---- those below a line stand first

below_too : (a b : RowKey) (l : Line) → key_lt b a ≡ false → is_below b.stamp l ≡ true → is_below a.stamp l ≡ true
below_too a b (line.At t) e f = grind (arith, nat_tests, e, f)
below_too a b line.End e f = refl

pub below-parted : (l : Line) (xs : List Registered)
    → IsInOrder registered_key xs → (i j : ℕ) (d : Registered) → i ≤ j → j < length xs
    → is_below (get_or xs j d).stamp l ≡ true → is_below (get_or xs i d).stamp l ≡ true
below-parted l xs o i j d le low h =
    let a = registered_key (get_or xs i d) in
    let b = registered_key (get_or xs j d) in
    below_too a b l (up_to_middle registered_key b xs i j d d o low (key_lt-self b) le) h

-- so they are the first ones
pub below-first : (l : Line) (xs : List Registered) (i : ℕ)
    → i ≤ length xs → AllWithin (λ (x : Registered). is_below x.stamp l ≡ true) xs 0 i
    → AllWithin (λ (x : Registered). is_below x.stamp l ≡ false) xs i (length xs)
    → take i xs ≡ filter (λ (x : Registered). is_below x.stamp l) xs
below-first l [] zero le first last = refl
below-first l [] (suc i) le first last = absurd (omega (arith, le))
below-first l (x ∷ xs) zero le first last =
    let h : is_below x.stamp l ≡ false = last 0 x (omega arith) (omega arith) in
    rw h (below-first l xs zero (omega arith) (λ j d lo hi. absurd (omega (arith, hi)))
    (λ j d lo hi. last (suc j) d (omega arith) (omega (arith, hi))))
below-first l (x ∷ xs) (suc i) le first last =
    let h : is_below x.stamp l ≡ true = first 0 x (omega arith) (omega arith) in
    rw h (ap (λ z. x ∷ z) (below-first l xs i (omega (arith, le)) (λ j d lo hi. first (suc j) d
    (omega (arith, lo)) (omega (arith, hi))) (λ j d lo hi. last (suc j) d (omega (arith, lo)) (omega (arith, hi)))))

-- and the others are those behind them
pub below-others : (l : Line) (xs : List Registered) (i : ℕ)
    → i ≤ length xs → AllWithin (λ (x : Registered). is_below x.stamp l ≡ true) xs 0 i
    → AllWithin (λ (x : Registered). is_below x.stamp l ≡ false) xs i (length xs) → drop i xs ≡ not_below l xs
below-others l [] zero le first last = refl
below-others l [] (suc i) le first last = absurd (omega (arith, le))
below-others l (x ∷ xs) zero le first last =
    let h : is_below x.stamp l ≡ false = last 0 x (omega arith) (omega arith) in
    rw h (ap (λ z. x ∷ z) (below-others l xs zero (omega arith) (λ j d lo hi. absurd (omega (arith, hi)))
    (λ j d lo hi. last (suc j) d (omega arith) (omega (arith, hi)))))
below-others l (x ∷ xs) (suc i) le first last =
    let h : is_below x.stamp l ≡ true = first 0 x (omega arith) (omega arith) in
    rw h (below-others l xs i (omega (arith, le)) (λ j d lo hi. first (suc j) d
    (omega (arith, lo)) (omega (arith, hi))) (λ j d lo hi. last (suc j) d (omega (arith, lo)) (omega (arith, hi))))
