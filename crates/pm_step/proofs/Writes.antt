-- Writes in rising order of variable number.
use Rattle.std.proofs.Common.{◌≡◌, ◌∙◌, ap, ap₂, refl, subst, sym, arith, ℕ, zero, suc, ◌<◌, ◌≤◌, Bool, true, false, cond, List, [], ◌∷◌, ◌++◌, length, set, take, drop, get_or}
use Rattle.std.specs.Prelude.{nat_lt, ◌==◌}
use Rattle.std.specs.List.{All, filter}
use Rattle.std.specs.List.Sorted.{IsNonDecreasingBy, IsPartitionPoint}
use Rattle.std.proofs.lemmas.Bool.Decides.{nat_tests}
use Rattle.std.proofs.lemmas.List.Elements.{All-append, All-cons, All-filter}
use Rattle.std.proofs.lemmas.List.Kept.{AllPairs-cons}
use Rattle.pm_base.specs.declared.value.Write.{Write}
use Rattle.pm_step.specs.Steps.{written, IsRising}
use Rattle.pm_step.specs.Writes.{begins_with, place_of}

abbrev lesser : ℕ → List Write → List Write
lesser n ws = filter (λ v. nat_lt v.var n) ws

abbrev greater : ℕ → List Write → List Write
greater n ws = filter (λ v. nat_lt n v.var) ws

keeps : (p : Write → Bool) (v : Write) (vs : List Write) → p v ≡ true → filter p (v ∷ vs) ≡ v ∷ filter p vs
keeps p v vs e = ap (λ (b : Bool). cond b (v ∷ filter p vs) (filter p vs)) e

drops : (p : Write → Bool) (v : Write) (vs : List Write) → p v ≡ false → filter p (v ∷ vs) ≡ filter p vs
drops p v vs e = ap (λ (b : Bool). cond b (v ∷ filter p vs) (filter p vs)) e

keeps_all : (p : Write → Bool) (vs : List Write) → All (λ v. p v ≡ true) vs → filter p vs ≡ vs
keeps_all p [] h = refl
keeps_all p (v ∷ vs) h = keeps p v vs (h 0 v (omega arith)) ∙ ap (λ (ws : List Write). v ∷ ws) (keeps_all p vs (λ k d lt. h (suc k) d (omega arith)))

drops_all : (p : Write → Bool) (vs : List Write) → All (λ v. p v ≡ false) vs → filter p vs ≡ []
drops_all p [] h = refl
drops_all p (v ∷ vs) h = drops p v vs (h 0 v (omega arith)) ∙ drops_all p vs (λ k d lt. h (suc k) d (omega arith))

is_below : (a b : ℕ) → a < b → nat_lt a b ≡ true
is_below a b h = grind (arith, nat_tests)

isnt_below : (a b : ℕ) → b ≤ a → nat_lt a b ≡ false
isnt_below a b h = grind (arith, nat_tests)

below : (a b : ℕ) → nat_lt a b ≡ true → a < b
below a b h = grind (arith, nat_tests)

not_below : (a b : ℕ) → nat_lt a b ≡ false → b ≤ a
not_below a b h = grind (arith, nat_tests)

-- what `partition_point` finds is the number of lesser writes
pub place-found : (n : ℕ) (ws : List Write) (i : ℕ) → i ≤ length ws →
    IsPartitionPoint (λ v. nat_lt v.var n ≡ true) (λ v. nat_lt v.var n ≡ false) ws i → i ≡ place_of n ws
place-found n [] i le h = omega arith
place-found n (v ∷ vs) zero le h =
    let none : lesser n (v ∷ vs) ≡ [] = drops_all (λ v. nat_lt v.var n) (v ∷ vs) (λ k d lt. h.1 k d (omega arith) lt) in
    sym (ap (λ (ws : List Write). length ws) none)
place-found n (v ∷ vs) (suc i) le h =
    let first : nat_lt v.var n ≡ true = h.0 0 v (omega arith) (omega arith) in
    let rest : i ≡ place_of n vs = place-found n vs i (omega arith)
    ((λ k d lo hi. h.0 (suc k) d (omega arith) (omega arith)), (λ k d lo hi. h.1 (suc k) d (omega arith) (omega arith))) in
    ap (λ (k : ℕ). suc k) rest ∙ sym (ap (λ (ws : List Write). length ws) (keeps (λ v. nat_lt v.var n) v vs first))

-- rising writes don't fall
pub rising-never_falls : (ws : List Write) → IsRising ws → IsNonDecreasingBy (λ v. v.var) ws
rising-never_falls ws up i j d le lt = no_fall (nat_lt i j) refl
  where
    no_fall : (b : Bool) → nat_lt i j ≡ b → (get_or ws i d).var ≤ (get_or ws j d).var
    no_fall true e = let less : (get_or ws i d).var < (get_or ws j d).var = up i j d (below i j e) lt in omega arith
    no_fall false e =
        let ge : j ≤ i = not_below i j e in
        let same : i ≡ j = omega arith in
        let one : (get_or ws i d).var ≡ (get_or ws j d).var = ap (λ (k : ℕ). (get_or ws k d).var) same in
        omega arith

-- the first of rising writes is to a lesser variable than the others
first_least : (v : Write) (vs : List Write) → IsRising (v ∷ vs) → All (λ w. v.var < w.var) vs
first_least v vs up k d lt = up 0 (suc k) d (omega arith) (omega arith)

others_rise : (v : Write) (vs : List Write) → IsRising (v ∷ vs) → IsRising vs
others_rise v vs up i j d le lt = up (suc i) (suc j) d (omega arith) (omega arith)

-- none of rising writes is lesser, and the others are greater, where the first isn't lesser
none_lesser : (n : ℕ) (v : Write) (vs : List Write) → IsRising (v ∷ vs) → n ≤ v.var → lesser n (v ∷ vs) ≡ []
none_lesser n v vs up le = drops_all (λ w. nat_lt w.var n) (v ∷ vs) past
  where
    past : All (λ w. nat_lt w.var n ≡ false) (v ∷ vs)
    past zero d lt = isnt_below v.var n le
    past (suc k) d lt = let above : v.var < (get_or vs k d).var = first_least v vs up k d (omega arith) in isnt_below (get_or vs k d).var n (omega arith)

others_greater : (n : ℕ) (v : Write) (vs : List Write) → IsRising (v ∷ vs) → n ≤ v.var → greater n vs ≡ vs
others_greater n v vs up le = keeps_all (λ w. nat_lt n w.var) vs (λ k d lt. let above : v.var < (get_or vs k d).var = first_least v vs up k d lt in is_below n (get_or vs k d).var (omega arith))

-- a write after those to lesser variables
after_lesser : (w v : Write) (vs : List Write) → nat_lt v.var w.var ≡ true → written (v ∷ vs) w ≡ v ∷ written vs w
unfolding written
after_lesser w v vs e =
    let kept : lesser w.var (v ∷ vs) ≡ v ∷ lesser w.var vs = keeps (λ u. nat_lt u.var w.var) v vs e in
    let lt : v.var < w.var = below v.var w.var e in
    let gone : greater w.var (v ∷ vs) ≡ greater w.var vs = drops (λ u. nat_lt w.var u.var) v vs (isnt_below w.var v.var (omega arith)) in
    ap₂ (λ (xs ys : List Write). xs ++ w ∷ ys) kept gone

-- a write of the first variable
at_first : (w v : Write) (vs : List Write) → IsRising (v ∷ vs) → w.var ≡ v.var → written (v ∷ vs) w ≡ w ∷ vs
unfolding written
at_first w v vs up e =
    let none : lesser w.var (v ∷ vs) ≡ [] = none_lesser w.var v vs up (omega arith) in
    let rest : greater w.var (v ∷ vs) ≡ vs = drops (λ u. nat_lt w.var u.var) v vs (isnt_below w.var v.var (omega arith)) ∙ others_greater w.var v vs up (omega arith) in
    ap₂ (λ (xs ys : List Write). xs ++ w ∷ ys) none rest

-- a write before all others
before_first : (w v : Write) (vs : List Write) → IsRising (v ∷ vs) → w.var < v.var → written (v ∷ vs) w ≡ w ∷ v ∷ vs
unfolding written
before_first w v vs up lt =
    let none : lesser w.var (v ∷ vs) ≡ [] = none_lesser w.var v vs up (omega arith) in
    let rest : greater w.var (v ∷ vs) ≡ v ∷ vs = keeps (λ u. nat_lt w.var u.var) v vs (is_below w.var v.var lt) ∙ ap (λ (ws : List Write). v ∷ ws) (others_greater w.var v vs up (omega arith)) in
    ap₂ (λ (xs ys : List Write). xs ++ w ∷ ys) none rest

place-lesser : (n : ℕ) (v : Write) (vs : List Write) → nat_lt v.var n ≡ true → place_of n (v ∷ vs) ≡ suc (place_of n vs)
place-lesser n v vs e = ap (λ (ws : List Write). length ws) (keeps (λ u. nat_lt u.var n) v vs e)

place-first : (n : ℕ) (v : Write) (vs : List Write) → IsRising (v ∷ vs) → n ≤ v.var → place_of n (v ∷ vs) ≡ 0
place-first n v vs up le = ap (λ (ws : List Write). length ws) (none_lesser n v vs up le)

-- put in the place of the write of its variable, a write is written
pub written-set : (w : Write) (ws : List Write) → IsRising ws →
    begins_with w.var (drop (place_of w.var ws) ws) ≡ true → set ws (place_of w.var ws) w ≡ written ws w
written-set w [] up h = cc
written-set w (v ∷ vs) up h = by_first (written-set w vs (others_rise v vs up)) (nat_lt v.var w.var) refl
  where
    by_first : (begins_with w.var (drop (place_of w.var vs) vs) ≡ true → set vs (place_of w.var vs) w ≡ written vs w) →
        (b : Bool) → nat_lt v.var w.var ≡ b → set (v ∷ vs) (place_of w.var (v ∷ vs)) w ≡ written (v ∷ vs) w
    by_first others true e =
        let p : place_of w.var (v ∷ vs) ≡ suc (place_of w.var vs) = place-lesser w.var v vs e in
        let there : begins_with w.var (drop (place_of w.var vs) vs) ≡ true = ap (λ (k : ℕ). begins_with w.var (drop k (v ∷ vs))) (sym p) ∙ h in
        ap (λ (k : ℕ). set (v ∷ vs) k w) p ∙ ap (λ (us : List Write). v ∷ us) (others there) ∙ sym (after_lesser w v vs e)
    by_first others false e =
        let le : w.var ≤ v.var = not_below v.var w.var e in
        let p : place_of w.var (v ∷ vs) ≡ 0 = place-first w.var v vs up le in
        let there : (v.var == w.var) ≡ true = ap (λ (k : ℕ). begins_with w.var (drop k (v ∷ vs))) (sym p) ∙ h in
        let same : w.var ≡ v.var = grind (arith, nat_tests) in
        ap (λ (k : ℕ). set (v ∷ vs) k w) p ∙ sym (at_first w v vs up same)

-- put before the writes to greater variables, a write of a new variable is written
pub written-insert : (w : Write) (ws : List Write) → IsRising ws →
    begins_with w.var (drop (place_of w.var ws) ws) ≡ false → take (place_of w.var ws) ws ++ w ∷ drop (place_of w.var ws) ws ≡ written ws w
unfolding written
written-insert w [] up h = refl
written-insert w (v ∷ vs) up h = by_first (written-insert w vs (others_rise v vs up)) (nat_lt v.var w.var) refl
  where
    by_first : (begins_with w.var (drop (place_of w.var vs) vs) ≡ false → take (place_of w.var vs) vs ++ w ∷ drop (place_of w.var vs) vs ≡ written vs w) →
        (b : Bool) → nat_lt v.var w.var ≡ b → take (place_of w.var (v ∷ vs)) (v ∷ vs) ++ w ∷ drop (place_of w.var (v ∷ vs)) (v ∷ vs) ≡ written (v ∷ vs) w
    by_first others true e =
        let p : place_of w.var (v ∷ vs) ≡ suc (place_of w.var vs) = place-lesser w.var v vs e in
        let there : begins_with w.var (drop (place_of w.var vs) vs) ≡ false = ap (λ (k : ℕ). begins_with w.var (drop k (v ∷ vs))) (sym p) ∙ h in
        ap (λ (k : ℕ). take k (v ∷ vs) ++ w ∷ drop k (v ∷ vs)) p ∙ ap (λ (us : List Write). v ∷ us) (others there) ∙ sym (after_lesser w v vs e)
    by_first others false e =
        let le : w.var ≤ v.var = not_below v.var w.var e in
        let p : place_of w.var (v ∷ vs) ≡ 0 = place-first w.var v vs up le in
        let there : (v.var == w.var) ≡ false = ap (λ (k : ℕ). begins_with w.var (drop k (v ∷ vs))) (sym p) ∙ h in
        let less : w.var < v.var = grind (arith, nat_tests) in
        ap (λ (k : ℕ). take k (v ∷ vs) ++ w ∷ drop k (v ∷ vs)) p ∙ sym (before_first w v vs up less)

all-written : (P : Write → Type 0) (ws : List Write) (w : Write) → All P ws → P w → All P (written ws w)
unfolding written
all-written P ws w all one = All-append P (lesser w.var ws) (w ∷ greater w.var ws)
    (All-filter (λ v. nat_lt v.var w.var) P ws all) (All-cons P w (greater w.var ws) one (All-filter (λ v. nat_lt w.var v.var) P ws all))

-- rising writes still rise after one more
pub rising-written : (ws : List Write) (w : Write) → IsRising ws → IsRising (written ws w)
unfolding written
rising-written [] w up = λ i j d le lt. absurd (omega arith)
rising-written (v ∷ vs) w up = by_first (rising-written vs w (others_rise v vs up)) (nat_lt v.var w.var) (nat_lt w.var v.var) refl refl
  where
    by_first : IsRising (written vs w) → (b c : Bool) → nat_lt v.var w.var ≡ b → nat_lt w.var v.var ≡ c → IsRising (written (v ∷ vs) w)
    by_first others true c e f = subst IsRising (sym (after_lesser w v vs e))
        (AllPairs-cons (λ x y. x.var < y.var) v (written vs w) (all-written (λ y. v.var < y.var) vs w (first_least v vs up) (below v.var w.var e)) others)
    by_first others false true e f =
        let lt : w.var < v.var = below w.var v.var f in
        subst IsRising (sym (before_first w v vs up lt))
        (AllPairs-cons (λ x y. x.var < y.var) w (v ∷ vs) (All-cons (λ y. w.var < y.var) v vs lt
        (λ k d within. let above : v.var < (get_or vs k d).var = first_least v vs up k d within in omega arith)) up)
    by_first others false false e f =
        let same : w.var ≡ v.var = let le : w.var ≤ v.var = not_below v.var w.var e in let ge : v.var ≤ w.var = not_below w.var v.var f in omega arith in
        subst IsRising (sym (at_first w v vs up same))
        (AllPairs-cons (λ x y. x.var < y.var) w vs (λ k d within. let above : v.var < (get_or vs k d).var = first_least v vs up k d within in omega arith) (others_rise v vs up))
