-- A query that waits for a port no more: found in its class, and what that is among all.
use Rattle.std.proofs.Common.{◌≡◌, ℕ, zero, suc, ◌<◌, inl, inr, Bool, true, false, not, cond, ◌||◌, ◌&&◌, ◌==◌, List, [], ◌∷◌, length, get_or, set, map, filter, if◌then◌else◌, Option, Some, None, refl, arith, ap, ap₂, sym, ◌∙◌, subst}
use Rattle.std.specs.List.{AllByRecursion}
use Rattle.std.proofs.lemmas.Bool.{cases_Bool, false≢true, or_parts}
use Rattle.std.proofs.lemmas.Bool.Decides.{nat_tests}
use Rattle.std.proofs.lemmas.List.{get_or_default}
use Rattle.std.proofs.lemmas.Option.{same_Some}
use Rattle.pm_base.specs.Stamps.{num_eq}
use Rattle.pm_base.specs.declared.stamp.Num.{Num}
use Rattle.pm_periods.specs.Rows.{AreDistinct, IsInOrder, has_num, key_lt}
use Rattle.pm_periods.specs.declared.rows.RowKey.{RowKey}
use Rattle.pm_periods.proofs.Keys.{num_eq-flip, num_eq-same}
use Rattle.pm_queries.specs.Queries.{Ended, behind_reg, class_queries, finish_if, finish_in, finish_one, has, has_reg, registered_key, without}
use Rattle.pm_queries.specs.Laid.{IsSame, SameRows, before, spot, spot_of, unwaited, unwaited_in}
use Rattle.pm_queries.specs.declared.registered.Registered.{Registered}
use Rattle.pm_queries.specs.declared.registered.Sent.{Sent}
use Rattle.pm_queries.specs.declared.registered.Spot.{Spot}
use Rattle.pm_queries.proofs.Spots.{same-set}
use Rattle.pm_queries.proofs.Rows.{has_reg-num, key_lt-self, lt, other_after}

-- the place of the first query of a number; how many there are where none has it
abbrev pub number_at : Num → List Registered → ℕ
number_at n [] = 0
number_at n (r ∷ rs) = if num_eq n r.num then 0 else suc (number_at n rs)

-- what the query sends when the port is taken off
abbrev pub sent_by : ℕ → Registered → List Sent
sent_by d r = if has d r.waits then finish_if (without d r.waits) r else []

None≢Some : {X : Type 0} (x : X) → None ≡ Some x → ⊥
None≢Some x e = absurd (cc e)

-- ---- the place is found by the stamp and the number

not_behind : (n : Num) (x : Registered) (xs : List Registered) (s : Spot)
    → AllByRecursion (λ y. lt y x ≡ false) xs → spot_of n xs ≡ Some s
    → key_lt (record { stamp = s.stamp; num = n }) (registered_key x) ≡ false
not_behind n x [] s a e = absurd (None≢Some s e)
not_behind n x (y ∷ ys) s a e = elim (cases_Bool (num_eq n y.num)) [
  | inl f ↦
      let at : spot y ≡ s = same_Some _ _ (sym (ap (λ b. cond b (Some (spot y)) (spot_of n ys)) f) ∙ e) in
      ap₂ (λ t m. key_lt (record { stamp = t; num = m }) (registered_key x))
      (sym (ap (λ (z : Spot). z.stamp) at)) (num_eq-same n y.num f) ∙ a.0
  | inr f ↦ not_behind n x ys s a.1 (sym (ap (λ b. cond b (Some (spot y)) (spot_of n ys)) f) ∙ e)
]

pub before-found : (n : Num) (xs : List Registered) (s : Spot) → IsInOrder registered_key xs → spot_of n xs ≡ Some s
    → before (record { stamp = s.stamp; num = n }) xs ≡ number_at n xs
before-found n [] s o e = absurd (None≢Some s e)
before-found n (x ∷ xs) s o e = elim (cases_Bool (num_eq n x.num)) [
  | inl f ↦
      let at : spot x ≡ s = same_Some _ _ (sym (ap (λ b. cond b (Some (spot x)) (spot_of n xs)) f) ∙ e) in
      let g : key_lt (registered_key x) (record { stamp = s.stamp; num = n }) ≡ false =
      ap₂ (λ t m. key_lt (registered_key x) (record { stamp = t; num = m }))
      (sym (ap (λ (z : Spot). z.stamp) at)) (num_eq-same n x.num f) ∙ key_lt-self (registered_key x) in
      rw (f, g) refl
  | inr f ↦
      let later = sym (ap (λ b. cond b (Some (spot x)) (spot_of n xs)) f) ∙ e in
      let g : key_lt (registered_key x) (record { stamp = s.stamp; num = n }) ≡ true =
      other_after (registered_key x) (record { stamp = s.stamp; num = n }) (not_behind n x xs s o.0 later) f in
      rw (f, g) (ap suc (before-found n xs s o.1 later))
]

-- ---- what a Finish does at that place

pub finish-row : (n : Num) (d : ℕ) (xs : List Registered) (i : ℕ) (r new : Registered)
    → i ≡ number_at n xs → i < length xs → r ≡ get_or xs i r → new ≡ unwaited d r
    → set xs i new ≡ (finish_in n d xs).queries
finish-row n d xs i r new at low here is =
    ap (λ z. set xs i z) (is ∙ ap (unwaited d) here)
    ∙ (ap (λ j. set xs j (unwaited d (get_or xs j r))) at ∙ go xs (subst (λ j. j < length xs) at low))
  where
    go : (ys : List Registered) → number_at n ys < length ys
        → set ys (number_at n ys) (unwaited d (get_or ys (number_at n ys) r)) ≡ (finish_in n d ys).queries
    go [] h = absurd (omega (arith, h))
    go (y ∷ ys) h = elim (cases_Bool (num_eq n y.num)) [
      | inl f ↦ rw f (by (has d y.waits) refl)
      | inr f ↦
          let h' : number_at n ys < length ys = (let g : cond (num_eq n y.num) 0 (suc (number_at n ys))
          ≡ suc (number_at n ys) = ap (λ b. cond b 0 (suc (number_at n ys))) f in omega (arith, g, h)) in
          rw f (ap (λ z. y ∷ z) (go ys h'))
    ]
      where
        by : (b : Bool) → has d y.waits ≡ b → unwaited d y ∷ ys ≡ (finish_one d y ys b).queries
        by true e = rw e refl
        by false e = rw e refl

pub finish-sent : (n : Num) (d : ℕ) (xs : List Registered) (i : ℕ) (r : Registered)
    → i ≡ number_at n xs → i < length xs → r ≡ get_or xs i r
    → sent_by d r ≡ (finish_in n d xs).sent
finish-sent n d xs i r at low here =
    ap (sent_by d) (here ∙ ap (λ j. get_or xs j r) at) ∙ go xs (subst (λ j. j < length xs) at low)
  where
    go : (ys : List Registered)
        → number_at n ys < length ys → sent_by d (get_or ys (number_at n ys) r) ≡ (finish_in n d ys).sent
    go [] h = absurd (omega (arith, h))
    go (y ∷ ys) h = elim (cases_Bool (num_eq n y.num)) [
      | inl f ↦ rw f (by (has d y.waits) refl)
      | inr f ↦
          let h' : number_at n ys < length ys = (let g : cond (num_eq n y.num) 0 (suc (number_at n ys))
          ≡ suc (number_at n ys) = ap (λ b. cond b 0 (suc (number_at n ys))) f in omega (arith, g, h)) in
          rw f (go ys h')
    ]
      where
        by : (b : Bool) → has d y.waits ≡ b → sent_by d y ≡ (finish_one d y ys b).sent
        by true e = rw e refl
        by false e = rw e refl

-- the number is there
pub found-low : (n : Num) (xs : List Registered) (s : Spot) → spot_of n xs ≡ Some s → number_at n xs < length xs
found-low n [] s e = absurd (None≢Some s e)
found-low n (x ∷ xs) s e = elim (cases_Bool (num_eq n x.num)) [
  | inl f ↦ rw f (omega arith)
  | inr f ↦ (let again =
      found-low n xs s (sym (ap (λ b. cond b (Some (spot x)) (spot_of n xs)) f) ∙ e) in rw f (omega (arith, again)))
]

-- where it isn't there nothing happens
pub finish-none : (n : Num) (d : ℕ) (xs : List Registered)
    → spot_of n xs ≡ None → ((finish_in n d xs).queries ≡ xs) × ((finish_in n d xs).sent ≡ [])
finish-none n d [] e = (refl, refl)
finish-none n d (x ∷ xs) e = elim (cases_Bool (num_eq n x.num)) [
  | inl f ↦ absurd (None≢Some (spot x) (sym e ∙ ap (λ b. cond b (Some (spot x)) (spot_of n xs)) f))
  | inr f ↦ (let again = finish-none n d xs (sym (ap (λ b. cond b (Some (spot x)) (spot_of n xs)) f) ∙ e) in
      rw f (ap (λ z. x ∷ z) again.0, again.1))
]

-- ---- from a class to all

map_none : (k : ℕ) (n : Num) (d : ℕ) (xs : List Registered) → has_reg n xs ≡ false → map (unwaited_in k n d) xs ≡ xs
map_none k n d [] f = refl
map_none k n d (x ∷ xs) f =
    let o = or_parts (num_eq n x.num) (has_reg n xs) f in
    ap₂ (λ y ys. y ∷ ys)
    (ap (λ b. cond b (unwaited d x) x) (none (k == x.class) (num_eq n x.num) o.0)) (map_none k n d xs o.1)
  where
    none : (a b : Bool) → b ≡ false → (a && b) ≡ false
    none true b e = e
    none false b e = refl

-- a Finish as a change of each query
pub finish-map : (n : Num) (d : ℕ) (xs : List Registered) (s : Spot)
    → AreDistinct registered_key xs → spot_of n xs ≡ Some s
    → map (unwaited_in s.class n d) xs ≡ (finish_in n d xs).queries
finish-map n d [] s u e = refl
finish-map n d (x ∷ xs) s u e = elim (cases_Bool (num_eq n x.num)) [
  | inl f ↦
      let at : spot x ≡ s = same_Some _ _ (sym (ap (λ b. cond b (Some (spot x)) (spot_of n xs)) f) ∙ e) in
      let class : x.class ≡ s.class = ap (λ (z : Spot). z.class) at in
      let g : (s.class == x.class) ≡ true = grind (arith, nat_tests, class) in
      let rest : map (unwaited_in s.class n d) xs ≡ xs =
      map_none s.class n d xs (ap (λ m. has_reg m xs) (num_eq-same n x.num f) ∙ (has_reg-num x.num xs ∙ u.0)) in
      ap₂ (λ y ys. y ∷ ys) (ap₂ (λ a b. cond (a && b) (unwaited d x) x) g f) rest
      ∙ sym (ap (λ b. (cond b (finish_one d x xs (has d x.waits)) (behind_reg x (finish_in n d xs))).queries) f
      ∙ by (has d x.waits) refl)
  | inr f ↦
      ap₂ (λ y ys. y ∷ ys) (ap (λ b. cond b (unwaited d x) x) (none (s.class == x.class) (num_eq n x.num) f))
      (finish-map n d xs s u.1 (sym (ap (λ b. cond b (Some (spot x)) (spot_of n xs)) f) ∙ e))
      ∙ sym (ap (λ b. (cond b (finish_one d x xs (has d x.waits)) (behind_reg x (finish_in n d xs))).queries) f)
]
  where
    by : (b : Bool) → has d x.waits ≡ b → (finish_one d x xs b).queries ≡ unwaited d x ∷ xs
    by true h = rw h refl
    by false h = rw h refl

    none : (a b : Bool) → b ≡ false → (a && b) ≡ false
    none true b h = h
    none false b h = refl

-- the class of the query that a number names has it
pub spot-class : (n : Num) (xs : List Registered) (s : Spot)
    → spot_of n xs ≡ Some s → spot_of n (class_queries s.class xs) ≡ Some s
spot-class n [] s e = absurd (None≢Some s e)
spot-class n (x ∷ xs) s e = elim (cases_Bool (num_eq n x.num)) [
  | inl f ↦
      let at : spot x ≡ s = same_Some _ _ (sym (ap (λ b. cond b (Some (spot x)) (spot_of n xs)) f) ∙ e) in
      let class : x.class ≡ s.class = ap (λ (z : Spot). z.class) at in
      let g : (s.class == x.class) ≡ true = grind (arith, nat_tests, class) in
      rw g (rw f (ap Some at))
  | inr f ↦
      let again = spot-class n xs s (sym (ap (λ b. cond b (Some (spot x)) (spot_of n xs)) f) ∙ e) in
      by (s.class == x.class) f again
]
  where
    by : (b : Bool) → num_eq n x.num ≡ false → spot_of n (class_queries s.class xs) ≡ Some s
        → spot_of n (cond b (x ∷ class_queries s.class xs) (class_queries s.class xs)) ≡ Some s
    by true f again = rw f again
    by false f again = again

-- and sends what it sends among all
pub sent-class : (n : Num) (d : ℕ) (xs : List Registered) (s : Spot)
    → spot_of n xs ≡ Some s → (finish_in n d (class_queries s.class xs)).sent ≡ (finish_in n d xs).sent
sent-class n d [] s e = absurd (None≢Some s e)
sent-class n d (x ∷ xs) s e = elim (cases_Bool (num_eq n x.num)) [
  | inl f ↦
      let at : spot x ≡ s = same_Some _ _ (sym (ap (λ b. cond b (Some (spot x)) (spot_of n xs)) f) ∙ e) in
      let class : x.class ≡ s.class = ap (λ (z : Spot). z.class) at in
      let g : (s.class == x.class) ≡ true = grind (arith, nat_tests, class) in
      rw g (rw f (by (has d x.waits)))
  | inr f ↦
      let again = sent-class n d xs s (sym (ap (λ b. cond b (Some (spot x)) (spot_of n xs)) f) ∙ e) in
      rw f (other (s.class == x.class) f again)
]
  where
    by : (b : Bool) → (finish_one d x (class_queries s.class xs) b).sent ≡ (finish_one d x xs b).sent
    by true = refl
    by false = refl

    other : (b : Bool)
        → num_eq n x.num ≡ false → (finish_in n d (class_queries s.class xs)).sent ≡ (finish_in n d xs).sent
        → (finish_in n d (cond b (x ∷ class_queries s.class xs) (class_queries s.class xs))).sent
        ≡ (finish_in n d xs).sent
    other true f again = rw f again
    other false f again = again

pub unwaited-same : (k : ℕ) (n : Num) (d : ℕ) (r : Registered) → IsSame r (unwaited_in k n d r)
unwaited-same k n d r = by (k == r.class && num_eq n r.num) (has d r.waits)
  where
    by : (a b : Bool) → IsSame r (cond a (cond b (record r { waits = without d r.waits }) r) r)
    by true true = record { key = refl; class = refl }
    by true false = record { key = refl; class = refl }
    by false b = record { key = refl; class = refl }

-- the query stays in its place
pub finish-same : (d : ℕ) (xs : List Registered) (i : ℕ) (r new : Registered)
    → i < length xs → r ≡ get_or xs i r → new ≡ unwaited d r → SameRows xs (set xs i new)
finish-same d xs i r new low here is =
    same-set xs i new (subst (λ z. IsSame z new)
    (here ∙ get_or_default xs i r new low) (subst (λ z. IsSame r z) (sym is) (by (has d r.waits))))
  where
    by : (b : Bool) → IsSame r (cond b (record r { waits = without d r.waits }) r)
    by true = record { key = refl; class = refl }
    by false = record { key = refl; class = refl }
