-- Periods: what is seen in them, and what becomes of them where another value is seen before them.
use Rattle.std.proofs.Common.{◌≡◌, ℕ, zero, suc, ◌+◌, ◌-◌, ◌<◌, ◌≤◌, ◌^◌, inl, inr, Bool, true, false, cond, not, pos, Option, None, Some, List, [], ◌∷◌, ◌++◌, length, get_or, set, take, drop, map, filter, refl, arith, ap, ap₂, sym, ◌∙◌, subst, append_assoc}
use Rattle.std.specs.List.{AllByRecursion}
use Rattle.std.specs.Option.{option_to_list}
use Rattle.std.proofs.lemmas.Bool.{cases_Bool}
use Rattle.std.proofs.lemmas.Bool.Decides.{nat_tests}
use Rattle.std.proofs.lemmas.List.{drop_more, get_or_at, length-append, map-append, set_at}
use Rattle.pm_base.specs.Stamps.{is_below, num_eq, stamp_lt}
use Rattle.pm_base.specs.declared.rows.PutRow.{PutRow}
use Rattle.pm_base.specs.declared.rows.ReadRow.{ReadRow}
use Rattle.pm_base.specs.declared.stamp.Line.{Line}
use Rattle.pm_base.specs.declared.stamp.Line.TheVariants as line
use Rattle.pm_base.specs.declared.stamp.Num.{Num}
use Rattle.pm_base.specs.declared.stamp.Stamp.{Stamp}
use Rattle.pm_base.specs.declared.value.Value.{Value}
use Rattle.pm_periods.specs.Laid.{AreLaid, AreLinked, AreOrdered, BeginAtBase, IsBehindPut, IsNotBefore, Sees, SeesNone, Stand, Unseen, begins_below, changed, is_later, is_of, puts_of, reads_of, renewed, renewed_one, told, value_under, with_reads}
use Rattle.pm_periods.specs.Records.{HaveTurns, changed_of, fresh_read, hit_in, value_after}
use Rattle.pm_periods.specs.Rows.{IsInOrder, key_lt, read_key, value_key}
use Rattle.pm_periods.specs.declared.held.Held.{Held}
use Rattle.pm_periods.specs.declared.record.Withdrawal.{Withdrawal}
use Rattle.pm_periods.proofs.Hits.{changed_of-append, changed_of-one, fresh_all, fresh_read-key, hits_settled}
use Rattle.pm_periods.proofs.Keys.{up_to-stamp, up_to-trans}
use Rattle.pm_periods.proofs.Receipts.{each_append}
use Rattle.pm_periods.proofs.Walks.{not_below-later}

pub each_join : {X : Type 0} (P : X → Type 0) (xs ys : List X) → AllByRecursion P xs → AllByRecursion P ys → AllByRecursion P (xs ++ ys)
each_join P [] ys a b = b
each_join P (x ∷ xs) ys a b = (a.0, each_join P xs ys a.1 b)

pub each_get : {X : Type 0} (P : X → Type 0) (xs : List X) (i : ℕ) (d : X) → i < length xs → AllByRecursion P xs → P (get_or xs i d)
each_get P [] i d lt a = absurd (omega arith)
each_get P (x ∷ xs) zero d lt a = a.0
each_get P (x ∷ xs) (suc i) d lt a = each_get P xs i d (omega arith) a.1

-- Places.

module _ (P : Option PutRow → Bool) where
  -- a test that holds of the earlier writes
  pub parted : ((o later : Option PutRow) → IsNotBefore later o → P later ≡ true → P o ≡ true) → (hs : List Held) → AreOrdered hs
      → (i j : ℕ) (d : Held) → i ≤ j → j < length hs → P (get_or hs j d).put ≡ true → P (get_or hs i d).put ≡ true
  parted mono [] o i j d le lt e = absurd (omega arith)
  parted mono (h ∷ hs) o zero zero d le lt e = e
  parted mono (h ∷ hs) o zero (suc j) d le lt e = mono h.put (get_or hs j d).put (each_get (λ (k : Held). IsNotBefore k.put h.put) hs j d (omega arith) o.0) e
  parted mono (h ∷ hs) o (suc i) zero d le lt e = absurd (omega arith)
  parted mono (h ∷ hs) o (suc i) (suc j) d le lt e = parted mono hs o.1 i j d (omega arith) (omega arith) e

  pub point_take : (b : Bool) (hs : List Held) (n : ℕ) → ((k : ℕ) (d : Held) → k < n → P (get_or hs k d).put ≡ b) → AllByRecursion (λ (h : Held). P h.put ≡ b) (take n hs)
  point_take b hs zero f = tt
  point_take b [] (suc n) f = tt
  point_take b (h ∷ hs) (suc n) f = (f 0 h (omega arith), point_take b hs n (λ k d lt. f (suc k) d (omega arith)))

  pub point_drop : (b : Bool) (hs : List Held) (n : ℕ) → ((k : ℕ) (d : Held) → n ≤ k → k < length hs → P (get_or hs k d).put ≡ b) → AllByRecursion (λ (h : Held). P h.put ≡ b) (drop n hs)
  point_drop b [] zero f = tt
  point_drop b [] (suc n) f = tt
  point_drop b (h ∷ hs) zero f = (f 0 h (omega arith) (omega arith), point_drop b hs zero (λ k d le lt. f (suc k) d (omega arith) (omega arith)))
  point_drop b (h ∷ hs) (suc n) f = point_drop b hs n (λ k d le lt. f (suc k) d (omega arith) (omega arith))

pub rows_take : {X : Type 0} (P : X → Type 0) (xs : List X) (n : ℕ) → ((k : ℕ) (d : X) → k < n → P (get_or xs k d)) → AllByRecursion P (take n xs)
rows_take P xs zero f = tt
rows_take P [] (suc n) f = tt
rows_take P (x ∷ xs) (suc n) f = (f 0 x (omega arith), rows_take P xs n (λ k d lt. f (suc k) d (omega arith)))

pub rows_drop : {X : Type 0} (P : X → Type 0) (xs : List X) (n : ℕ) → ((k : ℕ) (d : X) → n ≤ k → k < length xs → P (get_or xs k d)) → AllByRecursion P (drop n xs)
rows_drop P [] zero f = tt
rows_drop P [] (suc n) f = tt
rows_drop P (x ∷ xs) zero f = (f 0 x (omega arith) (omega arith), rows_drop P xs zero (λ k d le lt. f (suc k) d (omega arith) (omega arith)))
rows_drop P (x ∷ xs) (suc n) f = rows_drop P xs n (λ k d le lt. f (suc k) d (omega arith) (omega arith))

pub reads_parted : (s : Stamp) (qs : List ReadRow) → IsInOrder read_key qs → (i j : ℕ) (d : ReadRow) → i ≤ j → j < length qs → not (stamp_lt s (get_or qs j d).stamp) ≡ true → not (stamp_lt s (get_or qs i d).stamp) ≡ true
reads_parted s [] o i j d le lt e = absurd (omega arith)
reads_parted s (q ∷ qs) o zero zero d le lt e = e
reads_parted s (q ∷ qs) o zero (suc j) d le lt e =
    let f = each_get (λ (p : ReadRow). key_lt (read_key p) (read_key q) ≡ false) qs j d (omega arith) o.0 in
    earlier s q.stamp (get_or qs j d).stamp (up_to-stamp (read_key q) (read_key (get_or qs j d)) f) e
  where
    earlier : (s t u : Stamp) → stamp_lt u t ≡ false → not (stamp_lt s u) ≡ true → not (stamp_lt s t) ≡ true
    earlier s t u e f = grind (arith, nat_tests, e, f)
reads_parted s (q ∷ qs) o (suc i) zero d le lt e = absurd (omega arith)
reads_parted s (q ∷ qs) o (suc i) (suc j) d le lt e = reads_parted s qs o.1 i j d (omega arith) (omega arith) e

pub not_true : (b : Bool) → not b ≡ true → b ≡ false
not_true true e = absurd cc
not_true false e = refl

pub not_false : (b : Bool) → not b ≡ false → b ≡ true
not_false true e = refl
not_false false e = absurd cc

pub later_mono : (p : PutRow) (o later : Option PutRow) → IsNotBefore later o → not (is_later p later) ≡ true → not (is_later p o) ≡ true
later_mono p o None a e = absurd a
later_mono p None (Some q) a e = refl
later_mono p (Some r) (Some q) a e = ap not (up_to-trans (value_key r) (value_key q) (value_key p) a (not_true (key_lt (value_key p) (value_key q)) e))

pub below_mono : (l : Line) (o later : Option PutRow) → IsNotBefore later o → begins_below l later ≡ true → begins_below l o ≡ true
below_mono l o None a e = absurd a
below_mono l None (Some q) a e = refl
below_mono l (Some r) (Some q) a e = elim (cases_Bool (is_below r.stamp l)) [
  | inl f ↦ f
  | inr f ↦ absurd (let g = not_below-later r.stamp q.stamp l (up_to-stamp (value_key r) (value_key q) a) f in cc)
]

-- Values.

pub value_step : (l : Line) (o : Option PutRow) (ps : List PutRow) (v : Value) → begins_below l o ≡ true → value_under l (option_to_list o ++ ps) v ≡ value_under l ps (changed o v)
value_step l None ps v e = refl
value_step l (Some p) ps v e = ap (λ b. value_after (cond b (p ∷ filter (λ (q : PutRow). is_below q.stamp l) ps) (filter (λ (q : PutRow). is_below q.stamp l) ps)) v) e

pub value_stays : (l : Line) (hs : List Held) (v : Value) → AllByRecursion (λ (h : Held). begins_below l h.put ≡ false) hs → value_under l (puts_of hs) v ≡ v
value_stays l [] v a = refl
value_stays l (h ∷ hs) v a = by h.put a.0 (value_stays l hs v a.1)
  where
    by : (o : Option PutRow) → begins_below l o ≡ false → value_under l (puts_of hs) v ≡ v → value_under l (option_to_list o ++ puts_of hs) v ≡ v
    by None e again = absurd cc
    by (Some p) e again = ap (λ b. value_after (cond b (p ∷ filter (λ (q : PutRow). is_below q.stamp l) (puts_of hs)) (filter (λ (q : PutRow). is_below q.stamp l) (puts_of hs))) v) e ∙ again

-- what is seen behind these periods, where this value is seen before them
abbrev pub end_value : Value → List Held → Value
end_value v [] = v
end_value v (h ∷ hs) = end_value h.value hs

pub value_reached : (l : Line) (xs ys : List Held) (v : Value) → AreLaid v (xs ++ ys) → AllByRecursion (λ (h : Held). begins_below l h.put ≡ true) xs → AllByRecursion (λ (h : Held). begins_below l h.put ≡ false) ys
    → value_under l (puts_of (xs ++ ys)) v ≡ end_value v xs
value_reached l [] ys v laid a b = value_stays l ys v b
value_reached l (x ∷ xs) ys v laid a b =
    value_step l x.put (puts_of (xs ++ ys)) v a.0 ∙ (ap (value_under l (puts_of (xs ++ ys))) (sym laid.0) ∙ value_reached l xs ys x.value laid.2 a.1 b)

pub end_take : (v : Value) (hs : List Held) (n : ℕ) (d : Held) → n < length hs → end_value v (take (suc n) hs) ≡ (get_or hs n d).value
end_take v [] n d lt = absurd (omega arith)
end_take v (h ∷ hs) zero d lt = refl
end_take v (h ∷ hs) (suc n) d lt = end_take h.value hs n d (omega arith)

pub some_below : (l : Line) (hs : List Held) → BeginAtBase hs → AllByRecursion (λ (h : Held). begins_below l h.put ≡ false) hs → ⊥
some_below l [] b a = b
some_below l (h ∷ hs) b a = (let e : begins_below l h.put ≡ true = ap (begins_below l) b in let f = a.0 in cc)

-- the first period begins below each line
pub reached : (l : Line) (hs : List Held) (n : ℕ) → BeginAtBase hs → AllByRecursion (λ (h : Held). begins_below l h.put ≡ false) (drop n hs) → suc (n - 1) ≡ n
reached l hs zero b a = absurd (some_below l hs b a)
reached l hs (suc n) b a = omega arith

pub turns-split : (xs ys : List ReadRow) → HaveTurns (xs ++ ys) → HaveTurns xs × HaveTurns ys
turns-split xs ys t = each_append (λ (q : ReadRow). q.turn < 2 ^ 63) xs ys t

-- Another value before them.

-- a read is given the hit of what is seen at its stamp
fresh_same : (sees : Stamp → Value) (v : Value) (qs : List ReadRow) → AllByRecursion (λ (q : ReadRow). sees q.stamp ≡ v) qs → map (fresh_read (λ _. v)) qs ≡ map (fresh_read sees) qs
fresh_same sees v [] a = refl
fresh_same sees v (q ∷ qs) a = ap₂ (λ x xs. x ∷ xs) (ap (λ z. fresh_read (λ _. z) q) (sym a.0)) (fresh_same sees v qs a.1)

changed_same : (var : ℕ) (sees : Stamp → Value) (v : Value) (qs : List ReadRow) → AllByRecursion (λ (q : ReadRow). sees q.stamp ≡ v) qs → changed_of var (λ _. v) qs ≡ changed_of var sees qs
changed_same var sees v [] a = refl
changed_same var sees v (q ∷ qs) a =
    changed_of-append var (λ _. v) (q ∷ []) qs
    ∙ (ap₂ (λ x y. x ++ y) (ap (λ z. changed_of var (λ _. z) (q ∷ [])) (sym a.0) ∙ changed_of-one var sees q) (changed_same var sees v qs a.1) ∙ sym (changed_of-append var sees (q ∷ []) qs))

sees_own : (s : Stamp) (o : Option PutRow) (hs : List Held) (v : Value) → Sees o s → SeesNone hs s → value_under (line.At s) (option_to_list o ++ puts_of hs) v ≡ changed o v
sees_own s o hs v a b = value_step (line.At s) o (puts_of hs) v (seen o a) ∙ value_stays (line.At s) hs (changed o v) (unseen hs b)
  where
    seen : (o : Option PutRow) → Sees o s → begins_below (line.At s) o ≡ true
    seen None a = refl
    seen (Some p) a = a

    unseen : (hs : List Held) → SeesNone hs s → AllByRecursion (λ (h : Held). begins_below (line.At s) h.put ≡ false) hs
    unseen [] a = tt
    unseen (h ∷ hs) a = (one h.put a.0, unseen hs a.1)
      where
        one : (o : Option PutRow) → Unseen o s → begins_below (line.At s) o ≡ false
        one None a = absurd a
        one (Some p) a = a

pub seen_below : (s : Stamp) (o : Option PutRow) → Sees o s → begins_below (line.At s) o ≡ true
seen_below s None a = refl
seen_below s (Some p) a = a

pub each_two : {X : Type 0} (P Q R : X → Type 0) → ((x : X) → P x → Q x → R x) → (xs : List X) → AllByRecursion P xs → AllByRecursion Q xs → AllByRecursion R xs
each_two P Q R f [] a b = tt
each_two P Q R f (x ∷ xs) a b = (f x a.0 b.0, each_two P Q R f xs a.1 b.1)

-- what is seen at the stamps of these reads, by the writes of the periods
abbrev pub AreSeen : (Stamp → Value) → Value → List Held → Type 0
AreSeen sees v hs = AllByRecursion (λ (q : ReadRow). sees q.stamp ≡ value_under (line.At q.stamp) (puts_of hs) v) (reads_of hs)

-- the periods with another value before them have the record's reads, refreshed
pub renewed_reads : (var : ℕ) (sees : Stamp → Value) (v : Value) (hs : List Held) → Stand hs → AreSeen sees v hs
    → (reads_of (renewed v hs) ≡ map (fresh_read sees) (reads_of hs)) × (told var v hs ≡ changed_of var sees (reads_of hs))
renewed_reads var sees v [] s a = (refl, refl)
renewed_reads var sees v (h ∷ hs) s a =
    let w = changed h.put v in
    let here = each_append (λ (q : ReadRow). sees q.stamp ≡ value_under (line.At q.stamp) (option_to_list h.put ++ puts_of hs) v) h.reads (reads_of hs) a in
    let see = each_append (λ (q : ReadRow). Sees h.put q.stamp) h.reads (reads_of hs) s.0 in
    let own : AllByRecursion (λ (q : ReadRow). sees q.stamp ≡ w) h.reads =
    each_two (λ (q : ReadRow). Sees h.put q.stamp × SeesNone hs q.stamp) (λ (q : ReadRow). sees q.stamp ≡ value_under (line.At q.stamp) (option_to_list h.put ++ puts_of hs) v) (λ (q : ReadRow). sees q.stamp ≡ w)
    (λ q b e. e ∙ sees_own q.stamp h.put hs v b.0 b.1) h.reads (each_two (λ (q : ReadRow). Sees h.put q.stamp) (λ (q : ReadRow). SeesNone hs q.stamp) (λ (q : ReadRow). Sees h.put q.stamp × SeesNone hs q.stamp) (λ q x y. (x, y)) h.reads see.0 s.1) here.0 in
    let behind : AreSeen sees w hs =
    each_two (λ (q : ReadRow). Sees h.put q.stamp) (λ (q : ReadRow). sees q.stamp ≡ value_under (line.At q.stamp) (option_to_list h.put ++ puts_of hs) v) (λ (q : ReadRow). sees q.stamp ≡ value_under (line.At q.stamp) (puts_of hs) w)
    (λ q b e. e ∙ value_step (line.At q.stamp) h.put (puts_of hs) v (seen_below q.stamp h.put b)) (reads_of hs) see.1 here.1 in
    let again = renewed_reads var sees w hs s.2 behind in (
      ap₂ (λ x y. x ++ y) (fresh_same sees w h.reads own) again.0 ∙ sym (map-append (fresh_read sees) h.reads (reads_of hs)),
      ap₂ (λ x y. x ++ y) (changed_same var sees w h.reads own) again.1 ∙ sym (changed_of-append var sees h.reads (reads_of hs)),
    )

-- they are laid then
pub renewed-laid : (v : Value) (hs : List Held) → AreLaid v (renewed v hs)
renewed-laid v [] = tt
renewed-laid v (h ∷ hs) = (refl, hits_settled (λ _. changed h.put v) h.reads, renewed-laid (changed h.put v) hs)

-- periods that are laid stay as they are
pub renewed-same : (var : ℕ) (v : Value) (hs : List Held) → AreLaid v hs → (renewed v hs ≡ hs) × (told var v hs ≡ [])
renewed-same var v [] a = (refl, refl)
renewed-same var v (h ∷ hs) a =
    let w = changed h.put v in
    let reads = fresh_all var (λ _. w) h.reads (subst (λ z. AllByRecursion (λ (q : ReadRow). q.hit ≡ hit_in z q.window) h.reads) a.0 a.1) in
    let again = renewed-same var w hs (subst (λ z. AreLaid z hs) a.0 a.2) in
    (λ i. record { put = h.put; value = sym a.0 i; reads = reads.0 i } ∷ again.0 i, ap₂ (λ x y. x ++ y) reads.1 again.1)

pub laid-split : (v : Value) (xs ys : List Held) → AreLaid v (xs ++ ys) → AreLaid v xs × AreLaid (end_value v xs) ys
laid-split v [] ys a = (tt, a)
laid-split v (x ∷ xs) ys a = (let again = laid-split x.value xs ys a.2 in ((a.0, a.1, again.0), again.1))

pub laid-linked : (v : Value) (hs : List Held) → AreLaid v hs → AreLinked hs
laid-linked v [] a = tt
laid-linked v (h ∷ hs) a = (a.1, a.2)

-- what another value makes of periods behind some that are laid
pub renewed-behind : (var : ℕ) (v : Value) (xs ys : List Held) → AreLaid v xs → (renewed v (xs ++ ys) ≡ xs ++ renewed (end_value v xs) ys) × (told var v (xs ++ ys) ≡ told var (end_value v xs) ys)
renewed-behind var v [] ys a = (refl, refl)
renewed-behind var v (x ∷ xs) ys a =
    let w = changed x.put v in
    let one = renewed-same var v (x ∷ []) (a.0, a.1, tt) in
    let again = renewed-behind var x.value xs ys a.2 in
    let head : renewed_one w x ≡ x = ap (λ z. get_or z 0 x) one.0 in
    let none : changed_of var (λ _. w) x.reads ≡ [] =
    (fresh_all var (λ _. w) x.reads (subst (λ z. AllByRecursion (λ (q : ReadRow). q.hit ≡ hit_in z q.window) x.reads) a.0 a.1)).1 in (
      ap₂ (λ y z. y ∷ renewed z (xs ++ ys)) head (sym a.0) ∙ ap (λ z. x ∷ z) again.0,
      ap₂ (λ y z. y ++ told var z (xs ++ ys)) none (sym a.0) ∙ again.1,
    )

pub renewed-puts : (v : Value) (hs : List Held) → puts_of (renewed v hs) ≡ puts_of hs
renewed-puts v [] = refl
renewed-puts v (h ∷ hs) = ap (λ z. option_to_list h.put ++ z) (renewed-puts (changed h.put v) hs)

-- reads keep their stamps
fresh_stamp : (sees : Stamp → Value) (q : ReadRow) → (fresh_read sees q).stamp ≡ q.stamp
fresh_stamp sees q = ap (λ k. k.stamp) (fresh_read-key sees q)

module _ (P : Stamp → Type 0) where
  each_fresh : (sees : Stamp → Value) (qs : List ReadRow) → AllByRecursion (λ (q : ReadRow). P q.stamp) qs → AllByRecursion (λ (q : ReadRow). P q.stamp) (map (fresh_read sees) qs)
  each_fresh sees [] a = tt
  each_fresh sees (q ∷ qs) a = (subst P (sym (fresh_stamp sees q)) a.0, each_fresh sees qs a.1)

  each_renewed : (v : Value) (hs : List Held) → AllByRecursion (λ (q : ReadRow). P q.stamp) (reads_of hs) → AllByRecursion (λ (q : ReadRow). P q.stamp) (reads_of (renewed v hs))
  each_renewed v [] a = tt
  each_renewed v (h ∷ hs) a =
      let both = each_append (λ (q : ReadRow). P q.stamp) h.reads (reads_of hs) a in
      let w = changed h.put v in
      each_join (λ (q : ReadRow). P q.stamp) (map (fresh_read (λ _. w)) h.reads) (reads_of (renewed w hs)) (each_fresh (λ _. w) h.reads both.0) (each_renewed w hs both.1)

none_renewed : (v : Value) (hs : List Held) (s : Stamp) → SeesNone hs s → SeesNone (renewed v hs) s
none_renewed v [] s a = tt
none_renewed v (h ∷ hs) s a = (a.0, none_renewed (changed h.put v) hs s a.1)

pub renewed-stand : (v : Value) (hs : List Held) → Stand hs → Stand (renewed v hs)
renewed-stand v [] s = tt
renewed-stand v (h ∷ hs) s =
    let w = changed h.put v in
    let see = each_renewed (Sees h.put) v (h ∷ hs) s.0 in
    let none = each_fresh (λ t. SeesNone (renewed w hs) t) (λ _. w) h.reads (each_one hs h.reads s.1) in
    (see, none, renewed-stand w hs s.2)
  where
    each_one : (hs : List Held) (qs : List ReadRow) → AllByRecursion (λ (q : ReadRow). SeesNone hs q.stamp) qs → AllByRecursion (λ (q : ReadRow). SeesNone (renewed (changed h.put v) hs) q.stamp) qs
    each_one hs [] a = tt
    each_one hs (q ∷ qs) a = (none_renewed (changed h.put v) hs q.stamp a.0, each_one hs qs a.1)

not_before_renewed : (o : Option PutRow) (v : Value) (hs : List Held) → AllByRecursion (λ (k : Held). IsNotBefore k.put o) hs → AllByRecursion (λ (k : Held). IsNotBefore k.put o) (renewed v hs)
not_before_renewed o v [] a = tt
not_before_renewed o v (h ∷ hs) a = (a.0, not_before_renewed o (changed h.put v) hs a.1)

pub renewed-ordered : (v : Value) (hs : List Held) → AreOrdered hs → AreOrdered (renewed v hs)
renewed-ordered v [] o = tt
renewed-ordered v (h ∷ hs) o = (not_before_renewed h.put (changed h.put v) hs o.0, renewed-ordered (changed h.put v) hs o.1)

-- the write of that number
pub of_put : (n : Num) (o : Option PutRow) → is_of n o ≡ true → (p : PutRow) × (o ≡ Some p) × (num_eq n p.num ≡ true)
of_put n None e = absurd cc
of_put n (Some p) e = (p, refl, e)

abbrev pub no_withdrawal : Withdrawal
no_withdrawal = record { cut = record { num = record { agent = 0; seq = 0 }; stamp = record { time = 0; agent = 0 } }; put = None }

abbrev pub no_period : Held
no_period = record { put = None; value = record { x = pos 0; y = pos 0 }; reads = [] }

pub set_at_place : (hs : List Held) (k : ℕ) (x : Held) → k < length hs → set hs k x ≡ take k hs ++ x ∷ drop (suc k) hs
set_at_place [] k x lt = absurd (omega arith)
set_at_place (h ∷ hs) zero x lt = refl
set_at_place (h ∷ hs) (suc k) x lt = ap (λ z. h ∷ z) (set_at_place hs k x (omega arith))

-- What holds of all periods holds of some.
pub linked-drop : (v : Value) (hs : List Held) (n : ℕ) → AreLaid v hs → AreLinked (drop n hs)
linked-drop v hs zero a = laid-linked v hs a
linked-drop v [] (suc n) a = tt
linked-drop v (h ∷ hs) (suc n) a = linked-drop h.value hs n a.2

pub turns-drop : (hs : List Held) (n : ℕ) → HaveTurns (reads_of hs) → HaveTurns (reads_of (drop n hs))
turns-drop hs zero t = t
turns-drop [] (suc n) t = tt
turns-drop (h ∷ hs) (suc n) t = turns-drop hs n (turns-split h.reads (reads_of hs) t).1

pub turns-at : (hs : List Held) (n : ℕ) (d : Held) → n < length hs → HaveTurns (reads_of hs) → HaveTurns (get_or hs n d).reads
turns-at [] n d lt t = absurd (omega arith)
turns-at (h ∷ hs) zero d lt t = (turns-split h.reads (reads_of hs) t).0
turns-at (h ∷ hs) (suc n) d lt t = turns-at hs n d (omega arith) (turns-split h.reads (reads_of hs) t).1

pub turns-rows : (n : ℕ) (qs : List ReadRow) → HaveTurns qs → HaveTurns (drop n qs)
turns-rows zero qs t = t
turns-rows (suc n) [] t = tt
turns-rows (suc n) (q ∷ qs) t = turns-rows n qs t.1

order-split : (xs ys : List ReadRow) → IsInOrder read_key (xs ++ ys) → IsInOrder read_key xs × IsInOrder read_key ys
order-split [] ys o = (tt, o)
order-split (x ∷ xs) ys o = (let again = order-split xs ys o.1 in (((each_append (λ (y : ReadRow). key_lt (read_key y) (read_key x) ≡ false) xs ys o.0).0, again.0), again.1))

pub order-at : (hs : List Held) (n : ℕ) (d : Held) → n < length hs → IsInOrder read_key (reads_of hs) → IsInOrder read_key (get_or hs n d).reads
order-at [] n d lt o = absurd (omega arith)
order-at (h ∷ hs) zero d lt o = (order-split h.reads (reads_of hs) o).0
order-at (h ∷ hs) (suc n) d lt o = order-at hs n d (omega arith) (order-split h.reads (reads_of hs) o).1

-- the first period begins no later than each write
pub begun-place : (p : PutRow) (hs : List Held) (n : ℕ) → BeginAtBase hs → AllByRecursion (IsBehindPut p) (drop n hs) → suc (n - 1) ≡ n
begun-place p [] zero b a = absurd b
begun-place p (h ∷ hs) zero b a = absurd (let e : is_later p h.put ≡ false = ap (is_later p) b in let f = a.0 in cc)
begun-place p hs (suc n) b a = omega arith

-- a period put in behind the one at k, which is written, and what is behind both renewed
pub opened : (v : Value) (old : List Held) (k : ℕ) (d x y : Held) → k < length old
    → (old ≡ take k old ++ get_or old k d ∷ drop (suc k) old)
    × (set (take (suc k) old ++ y ∷ drop (suc k) old) k x ≡ take k old ++ x ∷ (y ∷ drop (suc k) old))
    × (take (suc (suc k)) (take k old ++ x ∷ (y ∷ drop (suc k) old)) ++ renewed v (drop (suc (suc k)) (take k old ++ x ∷ (y ∷ drop (suc k) old))) ≡ take k old ++ x ∷ (y ∷ renewed v (drop (suc k) old)))
    × (take (suc k) old ≡ take k old ++ get_or old k d ∷ [])
    × (drop (suc (suc k)) (take k old ++ x ∷ (y ∷ drop (suc k) old)) ≡ drop (suc k) old)
opened v [] k d x y lt = absurd (omega arith)
opened v (h ∷ hs) zero d x y lt = (refl, refl, refl, refl, refl)
opened v (h ∷ hs) (suc k) d x y lt =
    let again = opened v hs k d x y (omega arith) in
    (ap (λ z. h ∷ z) again.0, ap (λ z. h ∷ z) again.1, ap (λ z. h ∷ z) again.2, ap (λ z. h ∷ z) again.3, again.4)

inserted-at : (old : List Held) (k : ℕ) (d y : Held) (zs : List Held) → k < length old → get_or (take (suc k) old ++ y ∷ zs) k d ≡ get_or old k d
inserted-at [] k d y zs lt = absurd (omega arith)
inserted-at (h ∷ hs) zero d y zs lt = refl
inserted-at (h ∷ hs) (suc k) d y zs lt = inserted-at hs k d y zs (omega arith)

-- the periods after one was put in at a place and the one before it left with its first reads
module _ (base : Value) (old : List Held) (at : ℕ) (k : ℕ) (e : suc k ≡ at) (low : at ≤ length old) (d y : Held) (split : ℕ) (inserted : List Held) (is_inserted : inserted ≡ take at old ++ y ∷ drop at old) (left : List Held)
    (is_left : left ≡ set inserted (at - 1) (with_reads (take split (get_or inserted (at - 1) d).reads) (get_or inserted (at - 1) d))) where
  abbrev h : Held
  h = get_or old k d

  abbrev x : Held
  x = with_reads (take split h.reads) h

  left_is : left ≡ take k old ++ x ∷ (y ∷ drop (suc k) old)
  left_is =
      let put : List Held → ℕ → List Held = λ xs n. set xs n (with_reads (take split (get_or xs n d).reads) (get_or xs n d)) in
      let there : inserted ≡ take (suc k) old ++ y ∷ drop (suc k) old = is_inserted ∙ ap (λ z. take z old ++ y ∷ drop z old) (sym e) in
      let place : at - 1 ≡ k = omega (arith, e) in
      is_left ∙ (ap₂ put there place ∙ (ap (λ (z : Held). set (take (suc k) old ++ y ∷ drop (suc k) old) k (with_reads (take split z.reads) z)) (inserted-at old k d y (drop (suc k) old) (omega (arith, e, low)))
      ∙ (opened base old k d x y (omega (arith, e, low))).1))

  pub left_rest : drop (at + 1) left ≡ drop at old
  left_rest =
      let more : at + 1 ≡ suc (suc k) = omega (arith, e) in
      ap₂ drop more left_is ∙ ((opened base old k d x y (omega (arith, e, low))).4 ∙ ap (λ z. drop z old) e)

  pub left_renewed : (v : Value) → take (at + 1) left ++ renewed v (drop (at + 1) left) ≡ take k old ++ x ∷ (y ∷ renewed v (drop at old))
  left_renewed v =
      let more : at + 1 ≡ suc (suc k) = omega (arith, e) in
      ap₂ (λ n z. take n z ++ renewed v (drop n z)) more left_is ∙ ((opened v old k d x y (omega (arith, e, low))).2 ∙ ap (λ z. take k old ++ x ∷ (y ∷ renewed v (drop z old))) e)

-- a period dropped, the one before it written, and what is behind renewed
pub closed : (v : Value) (old : List Held) (k : ℕ) (d x : Held) (ys : List Held) → suc k < length old
    → (old ≡ take k old ++ get_or old k d ∷ (get_or old (suc k) d ∷ drop (suc (suc k)) old))
    × (take (suc k) (set old k x) ++ drop (suc (suc k)) (set old k x) ≡ take k old ++ x ∷ drop (suc (suc k)) old)
    × (take (suc k) (take k old ++ x ∷ ys) ++ renewed v (drop (suc k) (take k old ++ x ∷ ys)) ≡ take k old ++ x ∷ renewed v ys)
    × (drop (suc k) (take k old ++ x ∷ ys) ≡ ys)
closed v [] k d x ys lt = absurd (omega arith)
closed v (h ∷ []) zero d x ys lt = absurd (omega arith)
closed v (h ∷ (g ∷ hs)) zero d x ys lt = (refl, refl, refl, refl)
closed v (h ∷ hs) (suc k) d x ys lt =
    let again = closed v hs k d x ys (omega arith) in
    (ap (λ z. h ∷ z) again.0, ap (λ z. h ∷ z) again.1, ap (λ z. h ∷ z) again.2, again.3)

module _ (old : List Held) (at : ℕ) (k : ℕ) (e : suc k ≡ at) (low : at < length old) (d : Held) (reads : List ReadRow) (written : List Held)
    (is_written : written ≡ set old (at - 1) (with_reads reads (get_or old (at - 1) d))) (left : List Held) (is_left : left ≡ take at written ++ drop (at + 1) written) where
  abbrev y : Held
  y = with_reads reads (get_or old k d)

  closed_is : left ≡ take k old ++ y ∷ drop (at + 1) old
  closed_is =
      let place : at - 1 ≡ k = omega (arith, e) in
      let next : at + 1 ≡ suc (suc k) = omega (arith, e) in
      let there : written ≡ set old k y = is_written ∙ ap (λ n. set old n (with_reads reads (get_or old n d))) place in
      is_left ∙ (ap (λ z. take at z ++ drop (at + 1) z) there ∙ (ap₂ (λ n m. take n (set old k y) ++ drop m (set old k y)) (sym e) next
      ∙ ((closed y.value old k d y [] (omega (arith, e, low))).1 ∙ ap (λ n. take k old ++ y ∷ drop n old) (sym next))))

  pub closed_rest : drop at left ≡ drop (at + 1) old
  closed_rest = ap₂ drop (sym e) closed_is ∙ (closed y.value old k d y (drop (at + 1) old) (omega (arith, e, low))).3

  pub closed_renewed : (v : Value) → take at left ++ renewed v (drop at left) ≡ take k old ++ y ∷ renewed v (drop (at + 1) old)
  closed_renewed v = ap₂ (λ n z. take n z ++ renewed v (drop n z)) (sym e) closed_is ∙ (closed v old k d y (drop (at + 1) old) (omega (arith, e, low))).2

-- A loop that renews one period after another: it wrote those before the one at i, and v is seen before that.
module _ (before : Value) (hs now : List Held) (i : ℕ) (d : Held) (v : Value) (pre : List Held) (at : now ≡ pre ++ drop i hs) (many : length pre ≡ i) (done : renewed before hs ≡ pre ++ renewed v (drop i hs)) (low : i < length hs) where
  is : get_or now i d ≡ get_or hs i d
  is = ap (λ z. get_or z i d) (at ∙ ap (λ z. pre ++ z) (drop_more hs i d low)) ∙ get_or_at pre (get_or hs i d) (drop (i + 1) hs) d i many

  pub renew_rest : drop i hs ≡ get_or now i d ∷ drop (i + 1) hs
  renew_rest = drop_more hs i d low ∙ ap (λ z. z ∷ drop (i + 1) hs) (sym is)

  written : (x : Held) → set now i x ≡ pre ++ x ∷ drop (i + 1) hs
  written x = ap (λ z. set z i x) (at ∙ ap (λ z. pre ++ z) renew_rest) ∙ set_at pre (get_or now i d) (drop (i + 1) hs) x i many

  pub renew_next : (w : Value) (x : Held) → w ≡ changed (get_or now i d).put v → x ≡ renewed_one w (get_or now i d)
      → (set now i x ≡ (pre ++ x ∷ []) ++ drop (i + 1) hs) × (length (pre ++ x ∷ []) ≡ i + 1) × (renewed before hs ≡ (pre ++ x ∷ []) ++ renewed w (drop (i + 1) hs))
  renew_next w x e f = (
    written x ∙ sym (append_assoc pre (x ∷ []) (drop (i + 1) hs)),
    (let a = length-append pre (x ∷ []) in omega (arith, a, many)),
    done ∙ (ap (λ z. pre ++ renewed v z) renew_rest ∙ (ap (λ z. pre ++ (renewed_one z (get_or now i d) ∷ renewed z (drop (i + 1) hs))) (sym e)
        ∙ (ap (λ z. pre ++ (z ∷ renewed w (drop (i + 1) hs))) (sym f) ∙ sym (append_assoc pre (x ∷ []) (renewed w (drop (i + 1) hs)))))),
  )

  pub renew_last : AreLaid v (get_or now i d ∷ drop (i + 1) hs) → set now i (get_or now i d) ≡ renewed before hs
  renew_last laid = written (get_or now i d) ∙ sym (done ∙ (ap (λ z. pre ++ renewed v z) renew_rest ∙ ap (λ z. pre ++ z) (renewed-same 0 v (get_or now i d ∷ drop (i + 1) hs) laid).0))
