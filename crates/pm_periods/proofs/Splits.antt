-- A period is begun in the midst of others, or ended.
use Rattle.std.proofs.Common.{◌≡◌, ℕ, Bool, true, false, cond, ◌&&◌, ◌||◌, Option, None, Some, List, [], ◌∷◌, ◌++◌, filter, refl, arith, append-nil, append_assoc, ap, ap₂, sym, ◌∙◌, subst}
use Rattle.std.specs.List.{AllByRecursion}
use Rattle.std.specs.Option.{option_to_list}
use Rattle.std.proofs.lemmas.Bool.{or_parts}
use Rattle.std.proofs.lemmas.Bool.Decides.{nat_tests}
use Rattle.std.proofs.lemmas.List.Elements.{filter-append}
use Rattle.pm_base.specs.Changes.{applied}
use Rattle.pm_base.specs.Stamps.{is_below, num_eq, stamp_lt}
use Rattle.pm_base.specs.declared.rows.CutRow.{CutRow}
use Rattle.pm_base.specs.declared.rows.PutRow.{PutRow}
use Rattle.pm_base.specs.declared.rows.ReadRow.{ReadRow}
use Rattle.pm_base.specs.declared.stamp.Line.{Line}
use Rattle.pm_base.specs.declared.stamp.Num.{Num}
use Rattle.pm_base.specs.declared.stamp.Stamp.{Stamp}
use Rattle.pm_base.specs.declared.value.Value.{Value}
use Rattle.pm_periods.specs.Laid.{AreLaid, AreOrdered, IsBehindPut, IsNotBefore, IsUpToPut, Sees, SeesNone, Stand, Unseen, base_of, begun, is_later, puts_of, reads_of, renewed, told, value_under, with_reads}
use Rattle.pm_periods.specs.Records.{changed_of, hit_in, in_value_order, is_live, is_seen, value_after, value_below}
use Rattle.pm_periods.specs.Rows.{AreDistinct, IsInOrder, add_row, add_rows, has_num, key_lt, put_key, value_key}
use Rattle.pm_periods.specs.declared.held.Held.{Held}
use Rattle.pm_periods.specs.declared.rows.RowKey.{RowKey}
use Rattle.pm_periods.proofs.Keys.{key_lt-asym, num_eq-flip, up_to-stamp}
use Rattle.pm_periods.proofs.Laid.{each_join, each_two, end_value, renewed-behind}
use Rattle.pm_periods.proofs.Ordered.{filter_distinct, filter_in_order}
use Rattle.pm_periods.proofs.Receipts.{each_append, each_to}
use Rattle.pm_periods.proofs.Sorting.{Apart, add_rows-add_row, filter_add_rows, value_back}

-- Rows.

pub add_rows-append : {X : Type 0} (key : X → RowKey) (done xs ys : List X) → add_rows key done (xs ++ ys) ≡ add_rows key (add_rows key done xs) ys
add_rows-append key done [] ys = refl
add_rows-append key done (x ∷ xs) ys = add_rows-append key (add_row key x done) xs ys

-- one row more among these, wherever it stands, is put in its place
pub add_rows-among : {X : Type 0} (key : X → RowKey) (x : X) (xs ys : List X) → AllByRecursion (Apart key x) ys → add_rows key [] (xs ++ x ∷ ys) ≡ add_row key x (add_rows key [] (xs ++ ys))
add_rows-among key x xs ys a =
    add_rows-append key [] xs (x ∷ ys) ∙ (add_rows-add_row key x (add_rows key [] xs) ys a ∙ ap (add_row key x) (sym (add_rows-append key [] xs ys)))

pub has_num-append : {X : Type 0} (key : X → RowKey) (n : Num) (xs ys : List X) → has_num key n (xs ++ ys) ≡ (has_num key n xs || has_num key n ys)
has_num-append key n [] ys = refl
has_num-append key n (x ∷ xs) ys = ap (λ b. num_eq n (key x).num || b) (has_num-append key n xs ys) ∙ sym (assoc (num_eq n (key x).num) (has_num key n xs) (has_num key n ys))
  where
    assoc : (a b c : Bool) → ((a || b) || c) ≡ (a || (b || c))
    assoc true b c = refl
    assoc false b c = refl

-- one row more among these, of a number that none has
pub distinct-among : {X : Type 0} (key : X → RowKey) (x : X) (xs ys : List X) → AreDistinct key (xs ++ ys) → has_num key (key x).num (xs ++ ys) ≡ false → AreDistinct key (xs ++ x ∷ ys)
distinct-among key x [] ys d e = (e, d)
distinct-among key x (y ∷ xs) ys d e =
    let o = or_parts (num_eq (key x).num (key y).num) (has_num key (key x).num (xs ++ ys)) e in
    let parts = or_parts (has_num key (key y).num xs) (has_num key (key y).num ys) (sym (has_num-append key (key y).num xs ys) ∙ d.0) in
    let none : has_num key (key y).num (xs ++ x ∷ ys) ≡ false =
    has_num-append key (key y).num xs (x ∷ ys) ∙ ap₂ (λ a b. a || b) parts.0 (ap₂ (λ a b. a || b) (num_eq-flip (key x).num (key y).num o.0) parts.1) in
    (none, distinct-among key x xs ys d.1 o.1)

-- and without it
pub distinct-without : {X : Type 0} (key : X → RowKey) (x : X) (xs ys : List X) → AreDistinct key (xs ++ x ∷ ys) → AreDistinct key (xs ++ ys) × (has_num key (key x).num (xs ++ ys) ≡ false)
distinct-without key x [] ys d = (d.1, d.0)
distinct-without key x (y ∷ xs) ys d =
    let again = distinct-without key x xs ys d.1 in
    let parts = or_parts (has_num key (key y).num xs) (has_num key (key y).num (x ∷ ys)) (sym (has_num-append key (key y).num xs (x ∷ ys)) ∙ d.0) in
    let more = or_parts (num_eq (key y).num (key x).num) (has_num key (key y).num ys) parts.1 in
    ((has_num-append key (key y).num xs ys ∙ ap₂ (λ a b. a || b) parts.0 more.1, again.0), ap₂ (λ a b. a || b) (num_eq-flip (key y).num (key x).num more.0) again.1)

-- Lists of periods.

pub puts_of-append : (xs ys : List Held) → puts_of (xs ++ ys) ≡ puts_of xs ++ puts_of ys
puts_of-append [] ys = refl
puts_of-append (x ∷ xs) ys = ap (λ z. option_to_list x.put ++ z) (puts_of-append xs ys) ∙ sym (append_assoc (option_to_list x.put) (puts_of xs) (puts_of ys))

pub reads_of-append : (xs ys : List Held) → reads_of (xs ++ ys) ≡ reads_of xs ++ reads_of ys
reads_of-append [] ys = refl
reads_of-append (x ∷ xs) ys = ap (λ z. x.reads ++ z) (reads_of-append xs ys) ∙ sym (append_assoc x.reads (reads_of xs) (reads_of ys))

pub base_of-append : (xs : List Held) (h : Held) (ys zs : List Held) → base_of (xs ++ h ∷ ys) ≡ base_of (xs ++ h ∷ zs)
base_of-append [] h ys zs = refl
base_of-append (x ∷ xs) h ys zs = refl

-- the puts in the order in which they change the value
pub puts-ordered : (hs : List Held) → AreOrdered hs → IsInOrder value_key (puts_of hs)
puts-ordered [] o = tt
puts-ordered (h ∷ hs) o = by h.put o.0 (puts-ordered hs o.1)
  where
    each : (p : PutRow) (ks : List Held) → AllByRecursion (λ (k : Held). IsNotBefore k.put (Some p)) ks → AllByRecursion (λ (q : PutRow). key_lt (value_key q) (value_key p) ≡ false) (puts_of ks)
    each p [] a = tt
    each p (k ∷ ks) a = one k.put a.0 (each p ks a.1)
      where
        one : (o : Option PutRow) → IsNotBefore o (Some p) → AllByRecursion (λ (q : PutRow). key_lt (value_key q) (value_key p) ≡ false) (puts_of ks) → AllByRecursion (λ (q : PutRow). key_lt (value_key q) (value_key p) ≡ false) (option_to_list o ++ puts_of ks)
        one None b c = c
        one (Some q) b c = (b, c)

    by : (o : Option PutRow) → AllByRecursion (λ (k : Held). IsNotBefore k.put o) hs → IsInOrder value_key (puts_of hs) → IsInOrder value_key (option_to_list o ++ puts_of hs)
    by None a again = again
    by (Some p) a again = (each p hs a, again)

-- What a record sees is what its live puts make, wherever its withdrawn ones stand.
pub value_of-puts : (base : Value) (ps ws : List PutRow) (cuts : List CutRow) (reads : List ReadRow) (l : Line) → IsInOrder value_key ps → AreDistinct put_key ps
    → AllByRecursion (λ (p : PutRow). is_live cuts p ≡ true) ps → AllByRecursion (λ (p : PutRow). is_live cuts p ≡ false) ws
    → value_below (record { base = base; puts = add_rows put_key [] (ps ++ ws); cuts = cuts; reads = reads }) l ≡ value_under l ps base
value_of-puts base ps ws cuts reads l o d live dead =
    let below = λ (p : PutRow). is_below p.stamp l in
    let seen = is_seen cuts l in
    let left : filter seen (ps ++ ws) ≡ filter below ps = filter-append seen ps ws ∙ (ap₂ (λ x y. x ++ y) (are_live ps live) (are_dead ws dead) ∙ append-nil (filter below ps)) in
    ap (λ z. value_after (in_value_order z) base) (filter_add_rows put_key seen [] (ps ++ ws) tt ∙ ap (add_rows put_key []) left)
    ∙ ap (λ z. value_after z base) (value_back (filter below ps) (filter_in_order value_key below ps o) (filter_distinct put_key below ps d))
  where
    are_live : (qs : List PutRow) → AllByRecursion (λ (p : PutRow). is_live cuts p ≡ true) qs → filter (is_seen cuts l) qs ≡ filter (λ (p : PutRow). is_below p.stamp l) qs
    are_live [] a = refl
    are_live (q ∷ qs) a = ap₂ (λ b z. cond b (q ∷ z) z) (ap (λ b. b && is_below q.stamp l) a.0) (are_live qs a.1)

    are_dead : (qs : List PutRow) → AllByRecursion (λ (p : PutRow). is_live cuts p ≡ false) qs → filter (is_seen cuts l) qs ≡ []
    are_dead [] a = refl
    are_dead (q ∷ qs) a = ap (λ b. cond b (q ∷ filter (is_seen cuts l) qs) (filter (is_seen cuts l) qs)) (ap (λ b. b && is_below q.stamp l) a.0) ∙ are_dead qs a.1

-- A period begins.
module _ (p : PutRow) (h : Held) (early late : List ReadRow) (split : h.reads ≡ early ++ late) where
  -- the period with the reads that don't see the write, and that of the write with the others as they were
  abbrev pub lower : Held
  lower = with_reads early h

  abbrev pub upper : Held
  upper = record { put = Some p; value = h.value; reads = late }

  pub begun-reads : (xs ys : List Held) → reads_of (xs ++ lower ∷ (upper ∷ ys)) ≡ reads_of (xs ++ h ∷ ys)
  begun-reads [] ys = sym (append_assoc early late (reads_of ys)) ∙ ap (λ z. z ++ reads_of ys) (sym split)
  begun-reads (x ∷ xs) ys = ap (λ z. x.reads ++ z) (begun-reads xs ys)

  pub begun-laid : (v : Value) (xs ys : List Held) → AreLaid v (xs ++ h ∷ ys) → AreLaid v (xs ++ lower ∷ [])
  begun-laid v [] ys a = (a.0, (each_append (λ (q : ReadRow). q.hit ≡ hit_in h.value q.window) early late (subst (AllByRecursion (λ (q : ReadRow). q.hit ≡ hit_in h.value q.window)) split a.1)).0, tt)
  begun-laid v (x ∷ xs) ys a = (a.0, a.1, begun-laid x.value xs ys a.2)

  end_lower : (v : Value) (xs : List Held) → end_value v (xs ++ lower ∷ []) ≡ h.value
  end_lower v [] = refl
  end_lower v (x ∷ xs) = end_lower x.value xs

  -- what another value makes of them
  pub begun-renewed : (var : ℕ) (v : Value) (xs ys : List Held) → AreLaid v (xs ++ h ∷ ys)
      → (renewed v (xs ++ lower ∷ (upper ∷ ys)) ≡ xs ++ lower ∷ (begun p h.value late ∷ renewed (applied p.change h.value) ys))
      × (told var v (xs ++ lower ∷ (upper ∷ ys)) ≡ changed_of var (λ _. applied p.change h.value) late ++ told var (applied p.change h.value) ys)
  begun-renewed var v xs ys a =
      let again = renewed-behind var v (xs ++ lower ∷ []) (upper ∷ ys) (begun-laid v xs ys a) in
      let one = append_assoc xs (lower ∷ []) (upper ∷ ys) in
      let end = end_lower v xs in (
        ap (renewed v) (sym one) ∙ (again.0 ∙ (ap (λ z. (xs ++ lower ∷ []) ++ renewed z (upper ∷ ys)) end ∙ append_assoc xs (lower ∷ []) (renewed h.value (upper ∷ ys)))),
        ap (told var v) (sym one) ∙ (again.1 ∙ ap (λ z. told var z (upper ∷ ys)) end),
      )

  module _ (unseen : AllByRecursion (λ (q : ReadRow). stamp_lt p.stamp q.stamp ≡ false) early) (seen : AllByRecursion (λ (q : ReadRow). stamp_lt p.stamp q.stamp ≡ true) late) where
    earlier : (q p' : PutRow) (s : Stamp) → key_lt (value_key p) (value_key p') ≡ true → stamp_lt p'.stamp s ≡ true → stamp_lt p.stamp s ≡ true
    earlier q p' s e f = (let g = up_to-stamp (value_key p) (value_key p') (key_lt-asym (value_key p) (value_key p') e) in grind (arith, nat_tests, f, g))

    -- reads behind see the write
    behind_see : (ys : List Held) → AllByRecursion (IsBehindPut p) ys → Stand ys → AllByRecursion (λ (q : ReadRow). stamp_lt p.stamp q.stamp ≡ true) (reads_of ys)
    behind_see [] a s = tt
    behind_see (y ∷ ys) a s =
        each_to (λ (q : ReadRow). Sees y.put q.stamp) (λ (q : ReadRow). stamp_lt p.stamp q.stamp ≡ true) (λ q f. one y.put a.0 q.stamp f) (y.reads ++ reads_of ys) s.0
      where
        one : (o : Option PutRow) → is_later p o ≡ true → (t : Stamp) → Sees o t → stamp_lt p.stamp t ≡ true
        one None e t f = absurd cc
        one (Some k) e t f = earlier k k t e f

    -- reads before don't
    unseen_up_to : (o : Option PutRow) (t : Stamp) → is_later p o ≡ false → Unseen o t → stamp_lt p.stamp t ≡ false
    unseen_up_to None t e f = absurd f
    unseen_up_to (Some k) t e f = (let g = up_to-stamp (value_key k) (value_key p) e in grind (arith, nat_tests, f, g))

    none_with : (xs ys : List Held) (t : Stamp) → is_later p h.put ≡ false → SeesNone (xs ++ h ∷ ys) t → SeesNone (xs ++ lower ∷ (upper ∷ ys)) t
    none_with [] ys t e a = (a.0, (unseen_up_to h.put t e a.0, a.1))
    none_with (x ∷ xs) ys t e a = (a.0, none_with xs ys t e a.1)

    pub begun-stand : (xs ys : List Held) → is_later p h.put ≡ false → AllByRecursion (IsBehindPut p) ys → Stand (xs ++ h ∷ ys) → Stand (xs ++ lower ∷ (upper ∷ ys))
    begun-stand [] ys e b s =
        let none = each_append (λ (q : ReadRow). SeesNone ys q.stamp) early late (subst (AllByRecursion (λ (q : ReadRow). SeesNone ys q.stamp)) split s.1) in (
          subst (AllByRecursion (λ (q : ReadRow). Sees h.put q.stamp)) (sym (begun-reads [] ys)) s.0,
          each_two (λ (q : ReadRow). stamp_lt p.stamp q.stamp ≡ false) (λ (q : ReadRow). SeesNone ys q.stamp) (λ (q : ReadRow). SeesNone (upper ∷ ys) q.stamp) (λ q x y. (x, y)) early unseen none.0,
          (each_join (λ (q : ReadRow). stamp_lt p.stamp q.stamp ≡ true) late (reads_of ys) seen (behind_see ys b s.2), none.1, s.2),
        )
    begun-stand (x ∷ xs) ys e b s = (
      subst (λ z. AllByRecursion (λ (q : ReadRow). Sees x.put q.stamp) (x.reads ++ z)) (sym (begun-reads xs ys)) s.0,
      each_to (λ (q : ReadRow). SeesNone (xs ++ h ∷ ys) q.stamp) (λ (q : ReadRow). SeesNone (xs ++ lower ∷ (upper ∷ ys)) q.stamp) (λ q a. none_with xs ys q.stamp e a) x.reads s.1,
      begun-stand xs ys e b s.2,
    )

  begins_behind : (o : Option PutRow) → is_later p o ≡ false → IsNotBefore (Some p) o
  begins_behind None e = tt
  begins_behind (Some k) e = e

  begins_before : (o : Option PutRow) → is_later p o ≡ true → IsNotBefore o (Some p)
  begins_before None e = absurd cc
  begins_before (Some k) e = key_lt-asym (value_key p) (value_key k) e

  pub begun-ordered : (xs ys : List Held) → AllByRecursion (IsUpToPut p) (xs ++ h ∷ []) → AllByRecursion (IsBehindPut p) ys → AreOrdered (xs ++ h ∷ ys) → AreOrdered (xs ++ lower ∷ (upper ∷ ys))
  begun-ordered [] ys a b o = ((begins_behind h.put a.0, o.0), (each_to (IsBehindPut p) (λ (k : Held). IsNotBefore k.put (Some p)) (λ k e. begins_before k.put e) ys b, o.1))
  begun-ordered (x ∷ xs) ys a b o = (among xs (begins_behind x.put a.0) o.0, begun-ordered xs ys a.1 b o.1)
    where
      among : (zs : List Held) → IsNotBefore (Some p) x.put → AllByRecursion (λ (k : Held). IsNotBefore k.put x.put) (zs ++ h ∷ ys) → AllByRecursion (λ (k : Held). IsNotBefore k.put x.put) (zs ++ lower ∷ (upper ∷ ys))
      among [] e c = (c.0, (e, c.1))
      among (z ∷ zs) e c = (c.0, among zs e c.1)

  pub begun-puts : (xs ys : List Held) → puts_of (xs ++ lower ∷ (upper ∷ ys)) ≡ puts_of (xs ++ h ∷ []) ++ p ∷ puts_of ys
  begun-puts [] ys = one h.put
    where
      one : (o : Option PutRow) → option_to_list o ++ p ∷ puts_of ys ≡ (option_to_list o ++ []) ++ p ∷ puts_of ys
      one None = refl
      one (Some k) = refl
  begun-puts (x ∷ xs) ys = ap (λ z. option_to_list x.put ++ z) (begun-puts xs ys) ∙ sym (append_assoc (option_to_list x.put) (puts_of (xs ++ h ∷ [])) (p ∷ puts_of ys))
