-- Where each number stands, and changes that leave each query in its place.
use Rattle.std.proofs.Common.{◌≡◌, ℕ, zero, suc, ◌+◌, ◌<◌, inl, inr, Bool, true, false, not, cond, ◌||◌, ◌&&◌, ◌==◌, List, [], ◌∷◌, ◌++◌, length, get_or, set, take, drop, map, filter, Option, Some, None, refl, arith, ap, ap₂, sym, ◌∙◌, subst}
use Rattle.std.specs.List.{AllByRecursion}
use Rattle.std.specs.Option.{is_some}
use Rattle.std.proofs.lemmas.Bool.{cases_Bool, cond_both, false≢true, or_parts}
use Rattle.std.proofs.lemmas.Bool.Decides.{nat_tests}
use Rattle.pm_base.specs.Stamps.{is_below, num_eq}
use Rattle.pm_base.specs.declared.stamp.Line.{Line}
use Rattle.pm_base.specs.declared.stamp.Num.{Num}
use Rattle.pm_base.specs.declared.stamp.Stamp.{Stamp}
use Rattle.pm_periods.specs.Rows.{AreDistinct, IsInOrder, has_num, key_lt}
use Rattle.pm_periods.specs.declared.rows.RowKey.{RowKey}
use Rattle.pm_periods.proofs.Ordered.{has_num_less}
use Rattle.pm_periods.proofs.Keys.{num_eq-flip, num_eq-same}
use Rattle.pm_queries.specs.Queries.{add_reg, class_queries, has_reg, not_below, registered_key}
use Rattle.pm_queries.specs.Laid.{AllRise, IsRising, IsSame, OwnFrom, SameRows, add_regs, merged, spot, spot_of}
use Rattle.pm_queries.specs.declared.registered.Registered.{Registered}
use Rattle.pm_queries.specs.declared.registered.Spot.{Spot}
use Rattle.pm_queries.proofs.Rows.{has_reg-num, lt}

-- ---- where a number stands

pub spot_of-has : (n : Num) (xs : List Registered) → is_some (spot_of n xs) ≡ has_reg n xs
spot_of-has n [] = refl
spot_of-has n (x ∷ xs) =
    (let again = spot_of-has n xs in elim (cases_Bool (num_eq n x.num)) [ inl e ↦ rw e refl | inr e ↦ rw e again ])

pub spot_of-none : (n : Num) (xs : List Registered) → has_reg n xs ≡ false → spot_of n xs ≡ None
spot_of-none n [] f = refl
spot_of-none n (x ∷ xs) f =
    (let o = or_parts (num_eq n x.num) (has_reg n xs) f in let e = o.0 in rw e (spot_of-none n xs o.1))

pub spot_of-add : (n : Num) (r : Registered) (xs : List Registered) → has_reg r.num xs ≡ false
    → spot_of n (add_reg r xs) ≡ cond (num_eq n r.num) (Some (spot r)) (spot_of n xs)
spot_of-add n r [] f = refl
spot_of-add n r (x ∷ xs) f = elim (cases_Bool (lt r x)) [
  | inl e ↦ rw e refl
  | inr e ↦
      let o = or_parts (num_eq r.num x.num) (has_reg r.num xs) f in
      rw e (ap (λ z. cond (num_eq n x.num) (Some (spot x)) z) (spot_of-add n r xs o.1)
      ∙ by (num_eq n x.num) (num_eq n r.num) refl refl o.0)
]
  where
    by : (a b : Bool) → num_eq n x.num ≡ a → num_eq n r.num ≡ b → num_eq r.num x.num ≡ false
        → cond a (Some (spot x)) (cond b (Some (spot r)) (spot_of n xs))
        ≡ cond b (Some (spot r)) (cond a (Some (spot x)) (spot_of n xs))
    by true true p q o = absurd (false≢true (sym o ∙ (ap (λ m. num_eq m x.num) (sym (num_eq-same n r.num q)) ∙ p)))
    by true false p q o = refl
    by false true p q o = refl
    by false false p q o = refl

pub has_reg-filter : (n : Num) (p : Registered → Bool) (xs : List Registered)
    → has_reg n xs ≡ false → has_reg n (filter p xs) ≡ false
has_reg-filter n p xs f =
    has_reg-num n (filter p xs) ∙ has_num_less registered_key n p xs (sym (has_reg-num n xs) ∙ f)

-- what a filter leaves of distinct numbers
pub spot_of-filter : (n : Num) (p : Registered → Bool) (xs : List Registered) → AreDistinct registered_key xs
    → spot_of n (filter p xs) ≡ cond (has_reg n (filter (λ x. not (p x)) xs)) None (spot_of n xs)
spot_of-filter n p [] d = refl
spot_of-filter n p (x ∷ xs) d = by (p x) (num_eq n x.num) refl (spot_of-filter n p xs d.1)
  where
    none : num_eq n x.num ≡ true → (q : Registered → Bool) → has_reg n (filter q xs) ≡ false
    none e q = has_reg-filter n q xs (ap (λ m. has_reg m xs) (num_eq-same n x.num e) ∙ (has_reg-num x.num xs ∙ d.0))

    by : (a b : Bool) → num_eq n x.num ≡ b
        → spot_of n (filter p xs) ≡ cond (has_reg n (filter (λ y. not (p y)) xs)) None (spot_of n xs)
        → spot_of n (cond a (x ∷ filter p xs) (filter p xs)) ≡ cond (has_reg
        n (cond (not a) (x ∷ filter (λ y. not (p y)) xs) (filter (λ y. not (p y)) xs))) None (spot_of n (x ∷ xs))
    by true true e again = (let g = none e (λ y. not (p y)) in rw (e, g) refl)
    by true false e again = rw e again
    by false true e again = (let g = spot_of-none n (filter p xs) (none e p) in rw (e, g) refl)
    by false false e again = rw e again

-- ---- the same places

same_one : (x : Registered) → IsSame x x
same_one x = record { key = refl; class = refl }

pub same-self : (xs : List Registered) → SameRows xs xs
same-self [] = tt
same-self (x ∷ xs) = (same_one x, same-self xs)

pub same-written : (g : Registered → Registered) → ((r : Registered) → IsSame r (g r))
    → (xs : List Registered) (i : ℕ) → SameRows xs (map g (take i xs) ++ drop i xs)
same-written g kept xs zero = same-self xs
same-written g kept [] (suc i) = tt
same-written g kept (x ∷ xs) (suc i) = (kept x, same-written g kept xs i)

pub same-set : (xs : List Registered) (i : ℕ) (y : Registered) → IsSame (get_or xs i y) y → SameRows xs (set xs i y)
same-set [] i y h = tt
same-set (x ∷ xs) zero y h = (h, same-self xs)
same-set (x ∷ xs) (suc i) y h = (same_one x, same-set xs i y h)

same_add : (r s : Registered) (xs ys : List Registered)
    → IsSame r s → SameRows xs ys → SameRows (add_reg r xs) (add_reg s ys)
same_add r s [] [] h a = (h, tt)
same_add r s [] (y ∷ ys) h a = absurd a
same_add r s (x ∷ xs) [] h a = absurd a
same_add r s (x ∷ xs) (y ∷ ys) h a =
    let same : lt r x ≡ lt s y = ap₂ (λ k l. key_lt k l) h.key a.0.key in
    elim (cases_Bool (lt r x)) [
      | inl e ↦ (let f : lt s y ≡ true = sym same ∙ e in rw (e, f) (h, a))
      | inr e ↦ (let f : lt s y ≡ false = sym same ∙ e in rw (e, f) (a.0, same_add r s xs ys h a.1))
    ]

same_adds : (c d xs ys : List Registered) → SameRows c d → SameRows xs ys → SameRows (add_regs c xs) (add_regs d ys)
same_adds [] [] xs ys s a = a
same_adds [] (y ∷ d) xs ys s a = absurd s
same_adds (x ∷ c) [] xs ys s a = absurd s
same_adds (x ∷ c) (y ∷ d) xs ys s a = same_add x y (add_regs c xs) (add_regs d ys) s.0 (same_adds c d xs ys s.1 a)

pub same-merged : (cs : List (List Registered)) (k : ℕ) (d : List Registered)
    → SameRows (get_or cs k []) d → SameRows (merged cs) (merged (set cs k d))
same-merged [] k d s = tt
same-merged (c ∷ cs) zero d s = same_adds c d (merged cs) (merged cs) s (same-self (merged cs))
same-merged (c ∷ cs) (suc k) d s = same_adds c c (merged cs) (merged (set cs k d)) (same-self c) (same-merged cs k d s)

abbrev make_spot : ℕ → Stamp → Spot
make_spot c t = record { class = c; stamp = t }

pub same-spot_of : (n : Num) (xs ys : List Registered) → SameRows xs ys → spot_of n xs ≡ spot_of n ys
same-spot_of n [] [] a = refl
same-spot_of n [] (y ∷ ys) a = absurd a
same-spot_of n (x ∷ xs) [] a = absurd a
same-spot_of n (x ∷ xs) (y ∷ ys) a =
    let num : x.num ≡ y.num = ap (λ (k : RowKey). k.num) a.0.key in
    let at : spot x ≡ spot y = ap₂ make_spot a.0.class (ap (λ (k : RowKey). k.stamp) a.0.key) in
    ap (λ m. cond (num_eq n m) (Some (spot x)) (spot_of n xs)) num
    ∙ ap₂ (λ s o. cond (num_eq n y.num) (Some s) o) at (same-spot_of n xs ys a.1)

same_has : (n : Num) (xs ys : List Registered)
    → SameRows xs ys → has_num registered_key n xs ≡ has_num registered_key n ys
same_has n [] [] a = refl
same_has n [] (y ∷ ys) a = absurd a
same_has n (x ∷ xs) [] a = absurd a
same_has n (x ∷ xs) (y ∷ ys) a =
    ap₂ (λ m b. num_eq n m || b) (ap (λ (k : RowKey). k.num) a.0.key) (same_has n xs ys a.1)

pub same-distinct : (xs ys : List Registered)
    → SameRows xs ys → AreDistinct registered_key xs → AreDistinct registered_key ys
same-distinct [] [] a d = tt
same-distinct [] (y ∷ ys) a d = absurd a
same-distinct (x ∷ xs) [] a d = tt
same-distinct (x ∷ xs) (y ∷ ys) a d =
    let num : y.num ≡ x.num = sym (ap (λ (k : RowKey). k.num) a.0.key) in
    (ap (λ m. has_num registered_key m ys) num ∙ (sym (same_has x.num xs ys a.1) ∙ d.0), same-distinct xs ys a.1 d.1)

same_above : (x y : Registered) (xs ys : List Registered)
    → IsSame x y → SameRows xs ys → AllByRecursion (λ z. lt x z ≡ true) xs → AllByRecursion (λ z. lt y z ≡ true) ys
same_above x y [] [] h a r = tt
same_above x y [] (w ∷ ys) h a r = absurd a
same_above x y (z ∷ xs) [] h a r = tt
same_above x y (z ∷ xs) (w ∷ ys) h a r =
    (sym (ap₂ (λ k l. key_lt k l) h.key a.0.key) ∙ r.0, same_above x y xs ys h a.1 r.1)

pub same-rising : (xs ys : List Registered) → SameRows xs ys → IsRising xs → IsRising ys
same-rising [] [] a r = tt
same-rising [] (y ∷ ys) a r = absurd a
same-rising (x ∷ xs) [] a r = tt
same-rising (x ∷ xs) (y ∷ ys) a r = (same_above x y xs ys a.0 a.1 r.0, same-rising xs ys a.1 r.1)

same_lower : (x y : Registered) (xs ys : List Registered)
    → IsSame x y → SameRows xs ys → AllByRecursion (λ z. lt z x ≡ false) xs → AllByRecursion (λ z. lt z y ≡ false) ys
same_lower x y [] [] h a r = tt
same_lower x y [] (w ∷ ys) h a r = absurd a
same_lower x y (z ∷ xs) [] h a r = tt
same_lower x y (z ∷ xs) (w ∷ ys) h a r =
    (sym (ap₂ (λ k l. key_lt k l) a.0.key h.key) ∙ r.0, same_lower x y xs ys h a.1 r.1)

pub same-in_order : (xs ys : List Registered)
    → SameRows xs ys → IsInOrder registered_key xs → IsInOrder registered_key ys
same-in_order [] [] a r = tt
same-in_order [] (y ∷ ys) a r = absurd a
same-in_order (x ∷ xs) [] a r = tt
same-in_order (x ∷ xs) (y ∷ ys) a r = (same_lower x y xs ys a.0 a.1 r.0, same-in_order xs ys a.1 r.1)

same_class : (k : ℕ) (xs ys : List Registered) → SameRows xs ys
    → AllByRecursion (λ (r : Registered). r.class ≡ k) xs → AllByRecursion (λ (r : Registered). r.class ≡ k) ys
same_class k [] [] a o = tt
same_class k [] (y ∷ ys) a o = absurd a
same_class k (x ∷ xs) [] a o = tt
same_class k (x ∷ xs) (y ∷ ys) a o = (sym a.0.class ∙ o.0, same_class k xs ys a.1 o.1)

pub own-same : (i : ℕ) (cs : List (List Registered)) (k : ℕ) (d : List Registered)
    → SameRows (get_or cs k []) d → OwnFrom i cs → OwnFrom i (set cs k d)
own-same i [] k d s o = tt
own-same i (c ∷ cs) zero d s o = (same_class i c d s o.0, o.1)
own-same i (c ∷ cs) (suc k) d s o = (o.0, own-same (suc i) cs k d s o.1)

pub rise-same : (cs : List (List Registered)) (k : ℕ) (d : List Registered)
    → SameRows (get_or cs k []) d → AllRise cs → AllRise (set cs k d)
rise-same [] k d s r = tt
rise-same (c ∷ cs) zero d s r = (same-rising c d s r.0, r.1)
rise-same (c ∷ cs) (suc k) d s r = (r.0, rise-same cs k d s r.1)
