-- What is kept of records: a letter to one of them.
use Rattle.std.proofs.Common.{◌≡◌, ℕ, zero, suc, ◌+◌, ◌<◌, ◌≤◌, ◌^◌, ◌⊎◌, inl, inr, Bool, true, false, List, [], ◌∷◌}
use Rattle.std.proofs.Common.{map, get_or, set, length, Option, Some, None, Result, Ok, Err, ◌++◌, take, drop, refl}
use Rattle.std.proofs.Common.{arith, ap, ap₂, sym, ◌∙◌, subst}
use Rattle.std.specs.List.{AllByRecursion}
use Rattle.std.specs.Result.{IfOk, OnOk, OnErr}
use Rattle.std.proofs.Math.ListN.{get_or-map}
use Rattle.std.proofs.lemmas.Bool.{cases_eq, cases_lt, cond_both}
use Rattle.std.proofs.lemmas.List.{map-set, set-get_or, get_or-set_same, get_or-set_other, set_past, get_or_default}
use Rattle.std.proofs.lemmas.List.{get_or_past, append-nil}
use Rattle.pm_base.specs.declared.rows.GiveRow.{GiveRow}
use Rattle.pm_base.specs.declared.rows.CutRow.{CutRow}
use Rattle.pm_base.specs.declared.rows.Parts.{Parts}
use Rattle.pm_base.specs.declared.rows.PutRow.{PutRow}
use Rattle.pm_base.specs.declared.rows.ReadRow.{ReadRow}
use Rattle.pm_base.specs.declared.stamp.Num.{Num}
use Rattle.pm_base.specs.declared.stamp.Stamp.{Stamp}
use Rattle.pm_base.specs.declared.value.Value.{Value}
use Rattle.pm_base.specs.declared.value.Window.{Window}
use Rattle.pm_periods.specs.Records.{HaveTurns, IsSettled, Record, after_cut, after_put, after_watch, first_read}
use Rattle.pm_periods.specs.Records.{fresh_read, given_when, hit_by, read_stays, trimmed, is_stale, record_value}
use Rattle.pm_periods.specs.Records.{refreshed, with_cut, with_parts, with_put, with_read}
use Rattle.pm_periods.specs.Rows.{add_row, cut_key, has_num, key_lt, put_key, read_key}
use Rattle.pm_periods.proofs.Ordered.{each_filter}
use Rattle.pm_routes.specs.declared.way.Way.{Way}
use Rattle.pm_routes.specs.declared.way.Way.TheVariants as way
use Rattle.pm_base.specs.declared.stamp.Line.{Line}
use Rattle.pm_periods.proofs.Hits.{fresh_read-same}
use Rattle.pm_clp.specs.Clps.{Answered, first_parts, first_records, option_trim, rec_at}
use Rattle.pm_clp.specs.Kept.{AreRecords, HaveTurnsIn, IsRecordOf, Kept, TurnsUpTo, gives_after, kept_of, parts_in}
use Rattle.pm_clp.specs.Kept.{received, received_gives, recs_after, trimmed_in, first_each, first_kept}

-- a higher limit
pub turns_more : (n m : ℕ) → n ≤ m → (qs : List ReadRow) → AllByRecursion (λ (q : ReadRow). q.turn ≤ n) qs
    → AllByRecursion (λ (q : ReadRow). q.turn ≤ m) qs
turns_more n m e [] a = tt
turns_more n m e (q ∷ qs) a = (let b : q.turn ≤ n = a.0 in omega arith, turns_more n m e qs a.1)

pub record_more : (n m v : ℕ) → n ≤ m → (x : Option Record) → IsRecordOf n v x → IsRecordOf m v x
record_more n m v e None a = tt
record_more n m v e (Some r) a = (a.0, turns_more n m e r.parts.reads a.1)

-- one record in the place of another
pub set-records : (each : List (Option Record)) (n m v : ℕ) (x : Option Record) → AreRecords each n → n ≤ m
    → IsRecordOf m v x → AreRecords (set each v x) m
set-records each n m v x a e o = record {
  of = λ w. at w (cases_eq w v);
  high = (let h = a.high in omega arith);
}
  where
    here : (v < length each) ⊎ (length each ≤ v) → IsRecordOf m v (get_or (set each v x) v None)
    here (inl i) = subst (IsRecordOf m v) (sym (get_or-set_same each v x None i)) o
    here (inr i) = subst (λ z. IsRecordOf m v (get_or z v None)) (sym (set_past each v x i))
        (record_more n m v e (get_or each v None) (a.of v))

    at : (w : ℕ) → (w ≡ v) ⊎ (w ≡ v → ⊥) → IsRecordOf m w (get_or (set each v x) w None)
    at w (inl s) = subst (λ z. IsRecordOf m z (get_or (set each v x) z None)) (sym s) (here (cases_lt v (length each)))
    at w (inr d) = subst (IsRecordOf m w) (sym (get_or-set_other each v w x None d))
        (record_more n m w e (get_or each w None) (a.of w))

-- no read is given more than one hit more
fresh_turn : (n : ℕ) (b : Bool) (h : Option Value) (q : ReadRow) → q.turn ≤ n → (given_when b h q).turn ≤ suc n
fresh_turn n true h q e = omega arith
fresh_turn n false h q e = omega arith

pub fresh_turns : (sees : Stamp → Value) (n : ℕ) (qs : List ReadRow)
    → AllByRecursion (λ (q : ReadRow). q.turn ≤ n) qs
    → AllByRecursion (λ (q : ReadRow). q.turn ≤ suc n) (map (fresh_read sees) qs)
fresh_turns sees n [] a = tt
fresh_turns sees n (q ∷ qs) a = (fresh_turn n (is_stale sees q) (hit_by sees q) q a.0, fresh_turns sees n qs a.1)

pub put_turns : (n : ℕ) (p : PutRow) (r : Parts) → TurnsUpTo n r → TurnsUpTo (suc n) (after_put p r)
put_turns n p r a =
    cond_both (has_num put_key p.num r.puts) r (refreshed (with_put p r)) (TurnsUpTo (suc n))
    (λ _. turns_more n (suc n) (omega arith) r.reads a) (λ _. fresh_turns (record_value (with_put p r)) n r.reads a)

pub cut_turns : (n : ℕ) (c : CutRow) (r : Parts) → TurnsUpTo n r → TurnsUpTo (suc n) (after_cut c r)
cut_turns n c r a =
    cond_both (has_num cut_key c.num r.cuts) r (refreshed (with_cut c r)) (TurnsUpTo (suc n))
    (λ _. turns_more n (suc n) (omega arith) r.reads a) (λ _. fresh_turns (record_value (with_cut c r)) n r.reads a)

-- reads that have their hits are given none
module _ (sees : Stamp → Value) (n : ℕ) where
  abbrev Low : ReadRow → Type 0
  Low q = q.turn ≤ n

  abbrev Told : ReadRow → Type 0
  Told q = q.hit ≡ hit_by sees q

  same_turn : (x : ReadRow) → Told x → Low x → Low (fresh_read sees x)
  same_turn x e a = subst Low (sym (fresh_read-same sees x e).1) a

  same_turns : (xs : List ReadRow) → AllByRecursion Told xs → AllByRecursion Low xs
      → AllByRecursion Low (map (fresh_read sees) xs)
  same_turns [] e a = tt
  same_turns (x ∷ xs) e a = (same_turn x e.0 a.0, same_turns xs e.1 a.1)

  -- but for a new one
  add_fresh : (q : ReadRow) → Low (fresh_read sees q) → (xs : List ReadRow) → AllByRecursion Told xs
      → AllByRecursion Low xs → AllByRecursion Low (map (fresh_read sees) (add_row read_key q xs))
  add_fresh q o [] e a = (o, tt)
  add_fresh q o (x ∷ xs) e a =
      let rest = add_fresh q o xs e.1 a.1 in
      cond_both (key_lt (read_key q) (read_key x)) (q ∷ (x ∷ xs)) (x ∷ add_row read_key q xs)
      (λ l. AllByRecursion Low (map (fresh_read sees) l))
      (λ _. (o, same_turns (x ∷ xs) e a)) (λ _. (same_turn x e.0 a.0, rest))

pub watch_turns : (n : ℕ) (num : Num) (t : Stamp) (w : Window) (r : Parts) → IsSettled r → 1 ≤ n → TurnsUpTo n r
    → TurnsUpTo n (after_watch (first_read num t w) r)
watch_turns n num t w r s e a =
    let q : ReadRow = first_read num t w in
    let sees : Stamp → Value = record_value r in
    let o : (fresh_read sees q).turn ≤ 1 = fresh_turn 0 (is_stale sees q) (hit_by sees q) q (omega arith) in
    cond_both (has_num read_key num r.reads) r (refreshed (with_read q r)) (TurnsUpTo n)
    (λ _. a) (λ _. add_fresh sees n q (omega arith) r.reads s.hits a)

-- the turns of a record's reads
pub have_turns : (n : ℕ) → n < 2 ^ 63 → (x : Option Record) (v : ℕ) → IsRecordOf n v x → HaveTurnsIn x
have_turns n e None v a = tt
have_turns n e (Some r) v a = each r.parts.reads a.1
  where
    each : (qs : List ReadRow) → AllByRecursion (λ (q : ReadRow). q.turn ≤ n) qs → HaveTurns qs
    each [] a = tt
    each (q ∷ qs) a = (let b : q.turn ≤ n = a.0 in omega arith, each qs a.1)

-- a letter to the record of a variable, seen by parts
pub received-view : (f : ℕ → Parts → Answered) (n v : ℕ) (each : List (Option Record)) (x : Option Record)
    → x ≡ get_or each v None → IsRecordOf n v x
    → map parts_in (set each v (received f x)) ≡ recs_after (f v) v (rec_at (map parts_in each) v) (map parts_in each)
received-view f n v each x i o =
    map-set parts_in each v (received f x)
    ∙ (rw (get_or-map parts_in each v None) (rw (← i) (by x i o)))
  where
    by : (x : Option Record) → x ≡ get_or each v None → IsRecordOf n v x
        → set (map parts_in each) v (parts_in (received f x)) ≡ recs_after (f v) v (parts_in x) (map parts_in each)
    by None i o =
        let e : get_or (map parts_in each) v None ≡ None = get_or-map parts_in each v None ∙ ap parts_in (sym i) in
        subst (λ z. set (map parts_in each) v z ≡ map parts_in each) e (set-get_or (map parts_in each) v None)
    by (Some r) i o = ap (λ z. set (map parts_in each) v (Some (f z r.parts).rec)) o.0

pub received-gives : (f : ℕ → Parts → Answered) (n v : ℕ) (each : List (Option Record)) (x : Option Record)
    → x ≡ get_or each v None → IsRecordOf n v x
    → received_gives f x ≡ gives_after (f v) (rec_at (map parts_in each) v)
received-gives f n v each x i o = rw (get_or-map parts_in each v None) (rw (← i) (by x o))
  where
    by : (x : Option Record) → IsRecordOf n v x → received_gives f x ≡ gives_after (f v) (parts_in x)
    by None o = refl
    by (Some r) o = ap (λ z. (f z r.parts).gives) o.0

-- a record after a letter, whether memory sufficed or not
module _ {X E : Type 0} where
  pub put_kept : (res : Result X E) (n v : ℕ) (p : PutRow) (r new : Record)
      → OnOk res (new ≡ with_parts r (after_put p r.parts)) → OnErr res (new ≡ r)
      → IsRecordOf n v (Some r) → IsRecordOf (suc n) v (Some new)
  put_kept (Ok x) n v p r new ok err o = subst (λ z. IsRecordOf (suc n) v (Some z)) (sym ok)
      (o.0, put_turns n p r.parts o.1)
  put_kept (Err x) n v p r new ok err o = subst (λ z. IsRecordOf (suc n) v (Some z)) (sym err)
      (o.0, turns_more n (suc n) (omega arith) r.parts.reads o.1)

  pub cut_kept : (res : Result X E) (n v : ℕ) (p : CutRow) (r new : Record)
      → OnOk res (new ≡ with_parts r (after_cut p r.parts)) → OnErr res (new ≡ r)
      → IsRecordOf n v (Some r) → IsRecordOf (suc n) v (Some new)
  cut_kept (Ok x) n v p r new ok err o = subst (λ z. IsRecordOf (suc n) v (Some z)) (sym ok)
      (o.0, cut_turns n p r.parts o.1)
  cut_kept (Err x) n v p r new ok err o = subst (λ z. IsRecordOf (suc n) v (Some z)) (sym err)
      (o.0, turns_more n (suc n) (omega arith) r.parts.reads o.1)

  pub watch_kept : (res : Result X E) (n v : ℕ) (num : Num) (t : Stamp) (w : Window) (r new : Record)
      → OnOk res (new ≡ with_parts r (after_watch (first_read num t w) r.parts)) → OnErr res (new ≡ r)
      → IsSettled r.parts → 1 ≤ n → IsRecordOf n v (Some r) → IsRecordOf n v (Some new)
  watch_kept (Ok x) n v num t w r new ok err s e o =
      subst (λ z. IsRecordOf n v (Some z)) (sym ok) (o.0, watch_turns n num t w r.parts s e o.1)
  watch_kept (Err x) n v num t w r new ok err s e o = subst (λ z. IsRecordOf n v (Some z)) (sym err) o

-- a record that was looked up
pub record Found (each : List (Option Record)) (limit v : ℕ) (x : Option Record) : Type 0 where
  pub all : AreRecords each limit
  pub below : v < length each
  pub is : x ≡ get_or each v x

pub found-at : (each : List (Option Record)) (limit v : ℕ) (x : Option Record) → Found each limit v x
    → x ≡ get_or each v None
found-at each limit v x f = f.is ∙ get_or_default each v x None f.below

pub found-of : (each : List (Option Record)) (limit v : ℕ) (x : Option Record) → Found each limit v x
    → IsRecordOf limit v x
found-of each limit v x f = subst (IsRecordOf limit v) (sym (found-at each limit v x f)) (f.all.of v)

-- what a letter left, and what it gave, seen by parts
module _ {X E : Type 0} where
  pub view_ok : (res : Result X E) (f : ℕ → Parts → Answered) (v : ℕ) (each : List (Option Record))
      (x new : Option Record) (limit m l : ℕ) (now : Kept)
      → kept_of each limit ≡ now → Found each limit v x → m ≡ l → OnOk res (new ≡ received f x)
      → OnOk res (kept_of (set each v new) m ≡ record {
        recs = recs_after (f v) v (rec_at now.recs v) now.recs;
        limit = l;
      })
  view_ok (Ok y) f v each x new limit m l now is t e ok =
      subst (λ (z : Kept). kept_of (set each v new) m
      ≡ record { recs = recs_after (f v) v (rec_at z.recs v) z.recs; limit = l }) is
      (rw ok (rw (received-view f limit v each x (found-at each limit v x t) (found-of each limit v x t))
      (ap (λ z. record { recs = recs_after (f v) v (rec_at (map parts_in each) v) (map parts_in each); limit = z }) e)))
  view_ok (Err y) f v each x new limit m l now is t e ok = tt

  pub gives_ok : (G : X → List GiveRow) (res : Result X E) (f : ℕ → Parts → Answered) (v : ℕ)
      (each : List (Option Record)) (x : Option Record) (limit : ℕ) (now : Kept)
      → kept_of each limit ≡ now → Found each limit v x → IfOk res (λ g. G g ≡ received_gives f x)
      → IfOk res (λ g. G g ≡ gives_after (f v) (rec_at now.recs v))
  gives_ok G (Ok y) f v each x limit now is t ok =
      ok ∙ received-gives f limit v each x (found-at each limit v x t) (found-of each limit v x t)
      ∙ ap (λ (z : Kept). gives_after (f v) (rec_at z.recs v)) is
  gives_ok G (Err y) f v each x limit now is t ok = tt

-- past the end nothing is received
pub past-after : (f : Parts → Answered) (v : ℕ) (each : List (Option Record)) → length each ≤ v
    → recs_after f v (rec_at (map parts_in each) v) (map parts_in each) ≡ map parts_in each
past-after f v each i = rw (get_or-map parts_in each v None) (rw (get_or_past each v None i) refl)

pub past-gives : (f : Parts → Answered) (v : ℕ) (each : List (Option Record)) → length each ≤ v
    → gives_after f (rec_at (map parts_in each) v) ≡ []
past-gives f v each i = rw (get_or-map parts_in each v None) (rw (get_or_past each v None i) refl)

-- one record in the place of another, seen by parts
pub set_view : (each : List (Option Record)) (v : ℕ) (x : Option Record) (limit : ℕ) (now : Kept)
    → kept_of each limit ≡ now
    → kept_of (set each v x) limit ≡ record { recs = set now.recs v (parts_in x); limit = now.limit }
set_view each v x limit now is =
    subst (λ (k : Kept). kept_of (set each v x) limit ≡ record { recs = set k.recs v (parts_in x); limit = k.limit }) is
    (ap (λ z. record { recs = z; limit = limit }) (map-set parts_in each v x))

-- trimming
trim_record : (l : Line) (n v : ℕ) (x : Option Record) → IsRecordOf n v x → IsRecordOf n v (trimmed_in l x)
trim_record l n v None o = tt
trim_record l n v (Some r) o = (o.0, each_filter (λ (q : ReadRow). q.turn ≤ n) (read_stays l) r.parts.reads o.1)

pub trim-records : (l : Line) (each : List (Option Record)) (n : ℕ) → AreRecords each n
    → AreRecords (map (trimmed_in l) each) n
trim-records l each n a = record {
  of = λ v. subst (IsRecordOf n v) (sym (get_or-map (trimmed_in l) each v None))
      (trim_record l n v (get_or each v None) (a.of v));
  high = a.high;
}

-- the first records
pub first_parts_of : (v : ℕ) (ys : List Way) (xs : List Value) → map parts_in (first_each v ys xs) ≡ first_records ys xs
first_parts_of v [] xs = refl
first_parts_of v (y ∷ ys) [] = refl
first_parts_of v (way.Here ∷ ys) (x ∷ xs) = ap (λ z. Some (first_parts x) ∷ z) (first_parts_of (suc v) ys xs)
first_parts_of v (way.Port d ∷ ys) (x ∷ xs) = ap (λ z. None ∷ z) (first_parts_of (suc v) ys xs)

first_of : (n v : ℕ) (y : Way) (x : Value) → IsRecordOf n v (first_kept v y x)
first_of n v way.Here x = (refl, tt)
first_of n v (way.Port d) x = tt

first_at : (n v : ℕ) (ys : List Way) (xs : List Value) (k w : ℕ) → v + k ≡ w
    → IsRecordOf n w (get_or (first_each v ys xs) k None)
first_at n v [] xs k w e = tt
first_at n v (y ∷ ys) [] k w e = tt
first_at n v (y ∷ ys) (x ∷ xs) zero w e = (let s : v ≡ w = omega arith in
    subst (λ z. IsRecordOf n z (first_kept v y x)) s (first_of n v y x))
first_at n v (y ∷ ys) (x ∷ xs) (suc k) w e = first_at n (suc v) ys xs k w (omega arith)

pub first-records : (ys : List Way) (xs : List Value) → AreRecords (first_each 0 ys xs) (2 ^ 32)
first-records ys xs = record { of = λ v. first_at (2 ^ 32) 0 ys xs v v (omega arith); high = omega arith }

-- what is trimmed, seen by parts
pub trim_view : (l : Line) (each : List (Option Record)) (limit : ℕ) (now : Kept) → kept_of each limit ≡ now
    → kept_of (map (trimmed_in l) each) limit ≡ record { recs = map (option_trim l) now.recs; limit = now.limit }
trim_view l each limit now is =
    subst (λ (k : Kept). kept_of (map (trimmed_in l) each) limit
    ≡ record { recs = map (option_trim l) k.recs; limit = k.limit }) is
    (ap (λ z. record { recs = z; limit = limit }) (each_view each))
  where
    each_view : (xs : List (Option Record)) → map parts_in (map (trimmed_in l) xs)
        ≡ map (option_trim l) (map parts_in xs)
    each_view [] = refl
    each_view (None ∷ xs) = ap (λ z. None ∷ z) (each_view xs)
    each_view (Some r ∷ xs) = ap (λ z. Some (trimmed l r.parts) ∷ z) (each_view xs)

take_past : {X : Type 0} (xs : List X) (n : ℕ) → length xs ≤ n → take n xs ≡ xs
take_past [] zero i = refl
take_past [] (suc n) i = refl
take_past (x ∷ xs) zero i = absurd (omega arith)
take_past (x ∷ xs) (suc n) i = ap (λ z. x ∷ z) (take_past xs n (omega arith))

drop_past : {X : Type 0} (xs : List X) (n : ℕ) → length xs ≤ n → drop n xs ≡ []
drop_past [] zero i = refl
drop_past [] (suc n) i = refl
drop_past (x ∷ xs) zero i = absurd (omega arith)
drop_past (x ∷ xs) (suc n) i = drop_past xs n (omega arith)

-- the end of a walk along a list
pub walked_all : {X : Type 0} (f : X → X) (xs ys : List X) (n : ℕ) → ys ≡ map f (take n xs) ++ drop n xs
    → length xs ≤ n → ys ≡ map f xs
walked_all f xs ys n e i = e ∙ ap₂ (λ a b. map f a ++ b) (take_past xs n i) (drop_past xs n i) ∙ append-nil (map f xs)

pub made_all : (ys : List Way) (xs : List Value) (n : ℕ) (each : List (Option Record))
    → each ++ first_each n (drop n ys) (drop n xs) ≡ first_each 0 ys xs → length ys ≤ n
    → each ≡ first_each 0 ys xs
made_all ys xs n each e i = sym (append-nil each) ∙ (let d : drop n ys ≡ [] = drop_past ys n i in rw d at e)
