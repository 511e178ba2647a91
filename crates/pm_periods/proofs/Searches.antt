-- Where a search by a number's stamp ends.
use Rattle.std.proofs.Common.{◌≡◌, ℕ, zero, suc, ◌≤◌, ◌<◌, inl, inr, Bool, true, false, cond, ◌||◌, List, [], ◌∷◌}
use Rattle.std.proofs.Common.{◌++◌, length, get_or, take, map, Option, Some, None, refl, arith, ap, ap₂, sym, ◌∙◌}
use Rattle.std.specs.List.{AllByRecursion}
use Rattle.std.specs.Option.{is_some, option_to_list}
use Rattle.std.proofs.lemmas.Bool.{cases_Bool, false≢true, or_parts}
use Rattle.std.proofs.lemmas.Bool.Decides.{nat_tests}
use Rattle.pm_base.specs.Stamps.{num_eq}
use Rattle.pm_base.specs.declared.rows.PutRow.{PutRow}
use Rattle.pm_base.specs.declared.stamp.Num.{Num}
use Rattle.pm_base.specs.declared.stamp.Stamp.{Stamp}
use Rattle.pm_periods.specs.Inner.{AreSound, parts_by}
use Rattle.pm_periods.specs.Known.{AreKnown, goes_before, stamp_of}
use Rattle.pm_periods.specs.Laid.{AreOrdered, IsNotBefore, cut_of, is_of, puts_of, withdrawal_key, withdrawn_of}
use Rattle.pm_periods.specs.Places.{number_place}
use Rattle.pm_periods.specs.Rows.{AreDistinct, IsInOrder, add_row, add_rows, cut_key, has_num, key_lt, put_key}
use Rattle.pm_periods.specs.Rows.{value_key}
use Rattle.pm_periods.specs.declared.held.Held.{Held}
use Rattle.pm_periods.specs.declared.record.Withdrawal.{Withdrawal}
use Rattle.pm_periods.specs.declared.rows.RowKey.{RowKey}
use Rattle.pm_periods.proofs.Cuts.{withdrawn-none}
use Rattle.pm_periods.proofs.Keys.{key_lt-asym, key_lt-up_to, num_eq-flip, num_eq-same}
use Rattle.pm_periods.proofs.Known.{stamp-add, stamp-has, stamp-none}
use Rattle.pm_periods.proofs.Laid.{each_get}
use Rattle.pm_periods.proofs.Ordered.{has_num-add_row}
use Rattle.pm_periods.proofs.Sorting.{has_num-sorted}

key_lt-self : (a : RowKey) → key_lt a a ≡ false
key_lt-self a = elim (cases_Bool (key_lt a a)) [ inr e ↦ e | inl e ↦ absurd (false≢true (sym (key_lt-asym a a e) ∙ e)) ]

-- one that doesn't stand before another of another number stands behind it
other_after : (a b : RowKey) → key_lt b a ≡ false → num_eq b.num a.num ≡ false → key_lt a b ≡ true
other_after a b e f = grind (arith, nat_tests, e, f)

-- what stands before a key does so too where it doesn't stand behind one that does
up_to_before : (a b k : RowKey) → key_lt b a ≡ false → key_lt b k ≡ true → key_lt a k ≡ true
up_to_before a b k e f = elim (cases_Bool (key_lt a k)) [
  | inl g ↦ g
  | inr g ↦ absurd
      (false≢true (sym e ∙ key_lt-up_to b k a f g))
]

pick : {X : Type 0} → X → Option X → X
pick x None = x
pick x (Some z) = z

some_same : {X : Type 0} (x y : X) → Some x ≡ Some y → x ≡ y
unfolding pick
some_same x y e = ap (pick x) e

-- the stamp, or else that one
abbrev or_else : Option Stamp → Option Stamp → Option Stamp
or_else None o = o
or_else (Some s) o = Some s

or_none : (o : Option Stamp) → or_else o None ≡ o
or_none None = refl
or_none (Some s) = refl

-- ---- rows in order

module _ {X : Type 0} (key : X → RowKey) where
  pub rows-parted : (k : RowKey) (xs : List X) → IsInOrder key xs → (i j : ℕ) (d : X) → i ≤ j → j < length xs
      → key_lt (key (get_or xs j d)) k ≡ true → key_lt (key (get_or xs i d)) k ≡ true
  rows-parted k [] o i j d le lt e = absurd (omega arith)
  rows-parted k (x ∷ xs) o zero zero d le lt e = e
  rows-parted k (x ∷ xs) o zero (suc j) d le lt e =
      up_to_before (key x) (key (get_or xs j d)) k
      (each_get (λ y. key_lt (key y) (key x) ≡ false) xs j d (omega arith) o.0) e
  rows-parted k (x ∷ xs) o (suc i) zero d le lt e = absurd (omega arith)
  rows-parted k (x ∷ xs) o (suc i) (suc j) d le lt e = rows-parted k xs o.1 i j d (omega arith) (omega arith) e

  -- what is so of each row is so of the key of the row that a number names
  found : (n : Num) (s : Stamp) (z : RowKey) (xs : List X) → stamp_of key n xs ≡ Some s
      → AllByRecursion (λ y. key_lt (key y) z ≡ false) xs → key_lt (record { stamp = s; num = n }) z ≡ false
  found n s z [] e a = absurd (false≢true (ap is_some e))
  found n s z (x ∷ xs) e a = by (num_eq n (key x).num) refl e (λ h. found n s z xs h a.1)
    where
      by : (b : Bool) → num_eq n (key x).num ≡ b → cond b (Some (key x).stamp) (stamp_of key n xs) ≡ Some s
          → (stamp_of key n xs ≡ Some s → key_lt (record { stamp = s; num = n }) z ≡ false)
          → key_lt (record { stamp = s; num = n }) z ≡ false
      by true g h again = ap₂ (λ t m. key_lt (record { stamp = t; num = m }) z) (sym (some_same (key x).stamp s h))
          (num_eq-same n (key x).num g) ∙ a.0
      by false g h again = again h

  -- the first row that doesn't stand before the key of a number's row is that row
  pub key-place : (k : RowKey) (xs : List X) (i : ℕ) → IsInOrder key xs → stamp_of key k.num xs ≡ Some k.stamp
      → i ≤ length xs → ((j : ℕ) (d : X) → j < i → key_lt (key (get_or xs j d)) k ≡ true)
      → ((j : ℕ) (d : X) → i ≤ j → j < length xs → key_lt (key (get_or xs j d)) k ≡ false)
      → i ≡ number_place key k.num xs
  key-place k [] i o e le f g = absurd (false≢true (ap is_some e))
  key-place k (x ∷ xs) zero o e le f g = by (num_eq k.num (key x).num) refl e
    where
      by : (b : Bool) → num_eq k.num (key x).num ≡ b
          → cond b (Some (key x).stamp) (stamp_of key k.num xs) ≡ Some k.stamp
          → 0 ≡ cond b 0 (suc (number_place key k.num xs))
      by true h s = refl
      by false h s = absurd (false≢true (sym (g 0 x (omega arith) (omega arith))
          ∙ other_after (key x) k (found k.num k.stamp (key x) xs s o.0) h))
  key-place k (x ∷ xs) (suc i) o e le f g = by (num_eq k.num (key x).num) refl e
      (λ s. key-place k xs i o.1 s (omega arith) (λ j d lt. f (suc j) d (omega arith))
      (λ j d lo hi. g (suc j) d (omega arith) (omega arith)))
    where
      by : (b : Bool) → num_eq k.num (key x).num ≡ b
          → cond b (Some (key x).stamp) (stamp_of key k.num xs) ≡ Some k.stamp
          → (stamp_of key k.num xs ≡ Some k.stamp → i ≡ number_place key k.num xs)
          → suc i ≡ cond b 0 (suc (number_place key k.num xs))
      by true h s again =
          let same : key x ≡ k = ap₂ (λ t m. record { stamp = t; num = m }) (some_same (key x).stamp k.stamp s)
          (sym (num_eq-same k.num (key x).num h)) in
          absurd (false≢true (sym (key_lt-self k) ∙ (ap (λ z. key_lt z k) (sym same) ∙ f 0 x (omega arith))))
      by false h s again = ap suc (again s)

  pub no-place : (n : Num) (xs : List X) → stamp_of key n xs ≡ None → length xs ≡ number_place key n xs
  no-place n [] e = refl
  no-place n (x ∷ xs) e = by (num_eq n (key x).num) e (no-place n xs)
    where
      by : (b : Bool) → cond b (Some (key x).stamp) (stamp_of key n xs) ≡ None
          → (stamp_of key n xs ≡ None → length xs ≡ number_place key n xs)
          → suc (length xs) ≡ cond b 0 (suc (number_place key n xs))
      by true h again = absurd (false≢true (sym (ap is_some h)))
      by false h again = ap suc (again h)

  -- ---- a list brought into order

  pub stamp-append : (n : Num) (xs ys : List X) → stamp_of key n (xs ++ ys)
      ≡ or_else (stamp_of key n xs) (stamp_of key n ys)
  stamp-append n [] ys = refl
  stamp-append n (x ∷ xs) ys = by (num_eq n (key x).num) (stamp-append n xs ys)
    where
      by : (b : Bool) → stamp_of key n (xs ++ ys) ≡ or_else (stamp_of key n xs) (stamp_of key n ys)
          → cond b (Some (key x).stamp) (stamp_of key n (xs ++ ys))
          ≡ or_else (cond b (Some (key x).stamp) (stamp_of key n xs)) (stamp_of key n ys)
      by true again = refl
      by false again = again

  stamp-rows : (n : Num) (done xs : List X) → AreDistinct key xs
      → AllByRecursion (λ x. has_num key (key x).num done ≡ false) xs
      → stamp_of key n (add_rows key done xs) ≡ or_else (stamp_of key n xs) (stamp_of key n done)
  stamp-rows n done [] u a = refl
  stamp-rows n done (x ∷ xs) u a = stamp-rows n (add_row key x done) xs u.1 (on xs u.0 a.1)
      ∙ (ap (or_else (stamp_of key n xs)) (stamp-add key n x done a.0) ∙ by (num_eq n (key x).num) refl)
    where
      on : (ys : List X) → has_num key (key x).num ys ≡ false
          → AllByRecursion (λ y. has_num key (key y).num done ≡ false) ys
          → AllByRecursion (λ y. has_num key (key y).num (add_row key x done) ≡ false) ys
      on [] e b = tt
      on (y ∷ ys) e b =
          let apart = or_parts (num_eq (key x).num (key y).num) (has_num key (key x).num ys) e in
          let flip = num_eq-flip (key x).num (key y).num apart.0 in
          (has_num-add_row key (key y).num x done ∙ ap₂ (λ p q. p || q) flip b.0, on ys apart.1 b.1)

      by : (b : Bool) → num_eq n (key x).num ≡ b → or_else (stamp_of key n xs)
          (cond b (Some (key x).stamp) (stamp_of key n done))
          ≡ or_else (cond b (Some (key x).stamp) (stamp_of key n xs)) (stamp_of key n done)
      by true e = ap (λ o. or_else o (Some (key x).stamp))
          (stamp-none key n xs (ap (λ m. has_num key m xs) (num_eq-same n (key x).num e) ∙ u.0))
      by false e = refl

  pub stamp-sorted : (n : Num) (xs : List X) → AreDistinct key xs
      → stamp_of key n (add_rows key [] xs) ≡ stamp_of key n xs
  stamp-sorted n xs u = stamp-rows n [] xs u (none xs) ∙ or_none (stamp_of key n xs)
    where
      none : (ys : List X) → AllByRecursion (λ y. has_num key (key y).num [] ≡ false) ys
      none [] = tt
      none (y ∷ ys) = (refl, none ys)

-- ---- periods in order

pub before_mono : (p : PutRow) (o later : Option PutRow) → IsNotBefore later o → goes_before p later ≡ true
    → goes_before p o ≡ true
before_mono p None later a e = refl
before_mono p (Some q) None a e = absurd a
before_mono p (Some q) (Some r) a e = up_to_before (value_key q) (value_key r) (value_key p) a e

-- what is so of each write behind one is so of the one that a number names
least : (p q : PutRow) (ks : List Held) → stamp_of put_key p.num (puts_of ks) ≡ Some p.stamp
    → AllByRecursion (λ (k : Held). IsNotBefore k.put (Some q)) ks → key_lt (value_key p) (value_key q) ≡ false
least p q [] h b = absurd (false≢true (ap is_some h))
least p q (k ∷ ks) h b = one k.put h b.0 (λ i. least p q ks i b.1)
  where
    one : (o : Option PutRow) → stamp_of put_key p.num (option_to_list o ++ puts_of ks) ≡ Some p.stamp
        → IsNotBefore o (Some q) → (stamp_of put_key p.num (puts_of ks) ≡ Some p.stamp
        → key_lt (value_key p) (value_key q) ≡ false) → key_lt (value_key p) (value_key q) ≡ false
    one None h' c again = again h'
    one (Some r) h' c again = by (num_eq p.num r.num) refl h'
      where
        by : (t : Bool) → num_eq p.num r.num ≡ t → cond t (Some r.stamp) (stamp_of put_key p.num (puts_of ks))
            ≡ Some p.stamp → key_lt (value_key p) (value_key q) ≡ false
        by true g i = ap₂ (λ s m. key_lt (record { stamp = s; num = record { agent = m.seq; seq = m.agent } })
            (value_key q)) (sym (some_same r.stamp p.stamp i)) (num_eq-same p.num r.num g) ∙ c
        by false g i = again i

turned_other : (m n : Num) → num_eq m n ≡ false → num_eq (record { agent = m.seq; seq = m.agent })
    (record { agent = n.seq; seq = n.agent }) ≡ false
turned_other m n e = grind (arith, nat_tests, e)

first_found : (p : PutRow) (q : PutRow) (hs : List Held) → stamp_of put_key p.num (puts_of hs) ≡ Some p.stamp
    → AllByRecursion (λ (k : Held). IsNotBefore k.put (Some q)) hs → key_lt (value_key q) (value_key p) ≡ false
    → num_eq p.num q.num ≡ true
first_found p q hs e a f = elim (cases_Bool (num_eq p.num q.num)) [
  | inl g ↦ g
  | inr g ↦ absurd (false≢true (sym f ∙ other_after (value_key q) (value_key p) (least p q hs e a)
      (turned_other p.num q.num g)))
]

-- the first period that doesn't begin before a number's write is the one that it begins
pub begun-at : (p : PutRow) (hs : List Held) (i : ℕ) → AreOrdered hs
    → stamp_of put_key p.num (puts_of hs) ≡ Some p.stamp → i ≤ length hs
    → ((j : ℕ) (d : Held) → j < i → goes_before p (get_or hs j d).put ≡ true)
    → ((j : ℕ) (d : Held) → i ≤ j → j < length hs → goes_before p (get_or hs j d).put ≡ false)
    → (i < length hs) × ((d : Held) → is_of p.num (get_or hs i d).put ≡ true)
    × AllByRecursion (λ (h : Held). is_of p.num h.put ≡ false) (take i hs)
begun-at p [] i o e le f g = absurd (false≢true (ap is_some e))
begun-at p (h ∷ hs) zero o e le f g = (omega arith, (λ d. here h.put e (g 0 h (omega arith) (omega arith)) o.0), tt)
  where
    here : (o : Option PutRow) → stamp_of put_key p.num (option_to_list o ++ puts_of hs) ≡ Some p.stamp
        → goes_before p o ≡ false → AllByRecursion (λ (k : Held). IsNotBefore k.put o) hs → is_of p.num o ≡ true
    here None h' b a = absurd (false≢true (sym b))
    here (Some q) h' b a = by (num_eq p.num q.num) refl h'
      where
        by : (t : Bool) → num_eq p.num q.num ≡ t → cond t (Some q.stamp) (stamp_of put_key p.num (puts_of hs))
            ≡ Some p.stamp → num_eq p.num q.num ≡ true
        by true c i = c
        by false c i = first_found p q hs i a b
begun-at p (h ∷ hs) (suc i) o e le f g =
    let past = here h.put e (f 0 h (omega arith)) in
    let again = begun-at p hs i o.1 past.1 (omega arith) (λ j d lt. f (suc j) d (omega arith))
    (λ j d lo hi. g (suc j) d (omega arith) (omega arith)) in
    (omega (arith, again.0), again.1, (past.0, again.2))
  where
    here : (o : Option PutRow) → stamp_of put_key p.num (option_to_list o ++ puts_of hs) ≡ Some p.stamp
        → goes_before p o ≡ true → (is_of p.num o ≡ false) × (stamp_of put_key p.num (puts_of hs) ≡ Some p.stamp)
    here None h' b = (refl, h')
    here (Some q) h' b = by (num_eq p.num q.num) refl h'
      where
        by : (t : Bool) → num_eq p.num q.num ≡ t → cond t (Some q.stamp) (stamp_of put_key p.num (puts_of hs))
            ≡ Some p.stamp → (num_eq p.num q.num ≡ false) × (stamp_of put_key p.num (puts_of hs) ≡ Some p.stamp)
        by true c i =
            let same : value_key q ≡ value_key p =
            ap₂ (λ s m. record { stamp = s; num = record { agent = m.seq; seq = m.agent } })
            (some_same q.stamp p.stamp i) (sym (num_eq-same p.num q.num c)) in
            absurd (false≢true (sym (key_lt-self (value_key p)) ∙ (ap (λ z. key_lt z (value_key p)) (sym same) ∙ b)))
        by false c i = (c, i)

-- no period is begun by a put of a number that isn't there
pub no-put : (n : Num) (hs : List Held) → stamp_of put_key n (puts_of hs) ≡ None
    → AllByRecursion (λ (h : Held). is_of n h.put ≡ false) hs
no-put n [] e = tt
no-put n (h ∷ hs) e = here h.put e (no-put n hs)
  where
    here : (o : Option PutRow) → stamp_of put_key n (option_to_list o ++ puts_of hs) ≡ None
        → (stamp_of put_key n (puts_of hs) ≡ None → AllByRecursion (λ (k : Held). is_of n k.put ≡ false) hs)
        → (is_of n o ≡ false) × AllByRecursion (λ (k : Held). is_of n k.put ≡ false) hs
    here None f again = (refl, again f)
    here (Some q) f again = by (num_eq n q.num) refl f
      where
        by : (b : Bool) → num_eq n q.num ≡ b → cond b (Some q.stamp) (stamp_of put_key n (puts_of hs)) ≡ None
            → (num_eq n q.num ≡ false) × AllByRecursion (λ (k : Held). is_of n k.put ≡ false) hs
        by true g h' = absurd (false≢true (sym (ap is_some h')))
        by false g h' = (g, again h')

-- ---- what a record's look-ups tell

-- whether a put of the number was received
pub put-look : (hs : List Held) (ws : List Withdrawal) (P C R : Num → Option Stamp) → AreKnown (parts_by hs ws) P C R
    → (n : Num) → has_num put_key n (puts_of hs ++ withdrawn_of ws) ≡ is_some (P n)
put-look hs ws P C R k n = sym (has_num-sorted put_key put_key n (puts_of hs ++ withdrawn_of ws))
    ∙ (sym (stamp-has put_key n (add_rows put_key [] (puts_of hs ++ withdrawn_of ws))) ∙ ap is_some (sym (k.puts n)))

-- where the withdrawal of the number stands
pub cut-look : (ws : List Withdrawal) (C : Num → Option Stamp)
    → ((n : Num) → C n ≡ stamp_of cut_key n (map cut_of ws)) → (n : Num) → C n ≡ stamp_of withdrawal_key n ws
cut-look ws C k n = k n ∙ same ws
  where
    same : (vs : List Withdrawal) → stamp_of cut_key n (map cut_of vs) ≡ stamp_of withdrawal_key n vs
    same [] = refl
    same (v ∷ vs) = ap (cond (num_eq n v.cut.num) (Some v.cut.stamp)) (same vs)

-- where the put of a number that isn't withdrawn stands
pub live-look : (hs : List Held) (ws : List Withdrawal) (P C R : Num → Option Stamp) → AreSound hs ws
    → AreKnown (parts_by hs ws) P C R → (n : Num) → has_num cut_key n (map cut_of ws) ≡ false
    → P n ≡ stamp_of put_key n (puts_of hs)
live-look hs ws P C R s k n e =
    k.puts n ∙ (stamp-sorted put_key n (puts_of hs ++ withdrawn_of ws) s.once
    ∙ (stamp-append put_key n (puts_of hs) (withdrawn_of ws)
    ∙ (ap (or_else (stamp_of put_key n (puts_of hs)))
    (stamp-none put_key n (withdrawn_of ws) (withdrawn-none n ws s.named e))
    ∙ or_none (stamp_of put_key n (puts_of hs)))))

-- a number that isn't known has no stamp
pub not-some : (o : Option Stamp) → is_some o ≡ false → o ≡ None
not-some None e = refl
not-some (Some s) e = absurd (false≢true (sym e))

-- whether a cut of the number was received
pub cut-knows : (r : List Withdrawal) (C : Num → Option Stamp) → ((n : Num) → C n ≡ stamp_of cut_key n (map cut_of r))
    → (n : Num) → has_num cut_key n (map cut_of r) ≡ is_some (C n)
cut-knows ws C k n = sym (stamp-has cut_key n (map cut_of ws)) ∙ ap is_some (sym (k n))
