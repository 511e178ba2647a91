-- What a record is after a put, a cut or a read, by the lists that hold it.
use Rattle.std.proofs.Common.{◌≡◌, ℕ, ◌==◌, zero, suc, Bool, true, false, cond, not, ◌||◌, ◌&&◌, Option, None, Some, List, [], ◌∷◌, ◌++◌, take, map, filter, refl, ap, ap₂, sym, ◌∙◌}
use Rattle.std.specs.List.{AllByRecursion}
use Rattle.std.specs.Option.{option_to_list}
use Rattle.pm_base.specs.Stamps.{stamp_lt}
use Rattle.pm_base.specs.declared.rows.CutRow.{CutRow}
use Rattle.pm_base.specs.declared.rows.GiveRow.{GiveRow}
use Rattle.pm_base.specs.declared.rows.Parts.{Parts}
use Rattle.pm_base.specs.declared.rows.PutRow.{PutRow}
use Rattle.pm_base.specs.declared.rows.ReadRow.{ReadRow}
use Rattle.pm_base.specs.declared.stamp.Line.{Line}
use Rattle.pm_base.specs.declared.stamp.Line.TheVariants as line
use Rattle.pm_base.specs.declared.stamp.Num.{Num}
use Rattle.pm_base.specs.declared.stamp.Stamp.{Stamp}
use Rattle.pm_base.specs.declared.value.Value.{Value}
use Rattle.pm_base.specs.declared.value.Window.{Window}
use Rattle.pm_periods.specs.Records.{IsSettled, after_cut, after_put, after_watch, changed_of, first_read, fresh_read, given_when, hit_by, hit_eq, hit_in, in_value_order, is_live, is_seen, is_stale, last_give, next_give, record_value, refreshed, value_after, value_below, with_cut, with_put, with_read}
use Rattle.pm_base.specs.Stamps.{num_eq}
use Rattle.pm_periods.specs.Rows.{AreDistinct, IsInOrder, add_row, add_rows, cut_key, has_num, key_lt, put_key, read_key}
use Rattle.pm_periods.specs.declared.rows.RowKey.{RowKey}
use Rattle.pm_periods.proofs.Hits.{fresh_distinct, fresh_in_order, fresh_read-same, hits_settled}
use Rattle.pm_periods.proofs.Keys.{num_eq-flip}
use Rattle.pm_periods.proofs.Ordered.{add_row-distinct, add_row-in_order, filter_add_row_out, has_num-add_row}

-- a row is put in its place before or after its rows are rewritten
pub map_add_row : {X Y : Type 0} (f : X → Y) (kx : X → RowKey) (ky : Y → RowKey) → ((x : X) → ky (f x) ≡ kx x) → (r : X) (xs : List X) → map f (add_row kx r xs) ≡ add_row ky (f r) (map f xs)
map_add_row f kx ky same r [] = refl
map_add_row f kx ky same r (x ∷ xs) =
    let e : key_lt (ky (f r)) (ky (f x)) ≡ key_lt (kx r) (kx x) = ap₂ key_lt (same r) (same x) in
    let again = map_add_row f kx ky same r xs in
    by (key_lt (kx r) (kx x)) again ∙ ap (λ b. cond b (f r ∷ (f x ∷ map f xs)) (f x ∷ add_row ky (f r) (map f xs))) (sym e)
  where
    by : (b : Bool) → map f (add_row kx r xs) ≡ add_row ky (f r) (map f xs) → map f (cond b (r ∷ (x ∷ xs)) (x ∷ add_row kx r xs)) ≡ cond b (f r ∷ (f x ∷ map f xs)) (f x ∷ add_row ky (f r) (map f xs))
    by true again = refl
    by false again = ap (λ z. f x ∷ z) again

pub map_add_rows : {X Y : Type 0} (f : X → Y) (kx : X → RowKey) (ky : Y → RowKey) → ((x : X) → ky (f x) ≡ kx x) → (done xs : List X) → map f (add_rows kx done xs) ≡ add_rows ky (map f done) (map f xs)
map_add_rows f kx ky same done [] = refl
map_add_rows f kx ky same done (x ∷ xs) = map_add_rows f kx ky same (add_row kx x done) xs ∙ ap (λ z. add_rows ky z (map f xs)) (map_add_row f kx ky same x done)

pub each_append : {X : Type 0} (P : X → Type 0) (xs ys : List X) → AllByRecursion P (xs ++ ys) → AllByRecursion P xs × AllByRecursion P ys
each_append P [] ys a = (tt, a)
each_append P (x ∷ xs) ys a = (let again = each_append P xs ys a.1 in ((a.0, again.0), again.1))

pub each_take : {X : Type 0} (P : X → Type 0) (n : ℕ) (xs : List X) → AllByRecursion P xs → AllByRecursion P (take n xs)
each_take P zero xs a = tt
each_take P (suc n) [] a = tt
each_take P (suc n) (x ∷ xs) a = (a.0, each_take P n xs a.1)

pub both : {X : Type 0} (P Q R : X → Type 0) → ((x : X) → P x → Q x → R x) → (xs : List X) → AllByRecursion P xs → AllByRecursion Q xs → AllByRecursion R xs
both P Q R f [] a b = tt
both P Q R f (x ∷ xs) a b = (f x a.0 b.0, both P Q R f xs a.1 b.1)

pub each_to : {X : Type 0} (P Q : X → Type 0) → ((x : X) → P x → Q x) → (xs : List X) → AllByRecursion P xs → AllByRecursion Q xs
each_to P Q f [] a = tt
each_to P Q f (x ∷ xs) a = (f x a.0, each_to P Q f xs a.1)

-- a record whose lists are in order is settled once it is refreshed
pub refreshed-settled : (r : Parts) → IsInOrder put_key r.puts → AreDistinct put_key r.puts → IsInOrder cut_key r.cuts → AreDistinct cut_key r.cuts → IsInOrder read_key r.reads → AreDistinct read_key r.reads → IsSettled (refreshed r)
refreshed-settled r a b c d e f = record {
  puts = a;
  puts_once = b;
  cuts = c;
  cuts_once = d;
  reads = fresh_in_order (record_value r) r.reads e;
  reads_once = fresh_distinct (record_value r) r.reads f;
  hits = hits_settled (record_value r) r.reads;
}

-- a put changes nothing that is seen up to its stamp, and nothing at all where it isn't live
pub value_without : (p : PutRow) (r : Parts) (l : Line) → is_seen r.cuts l p ≡ false → value_below (with_put p r) l ≡ value_below r l
value_without p r l e = ap (λ z. value_after (in_value_order z) r.base) (filter_add_row_out put_key (is_seen r.cuts l) p r.puts e)

pub and_false : (a b : Bool) → b ≡ false → (a && b) ≡ false
and_false true b e = e
and_false false b e = refl

pub num_eq-swap : (m n : Num) → num_eq m n ≡ num_eq n m
num_eq-swap m n = by (num_eq m n) (num_eq n m) (num_eq-flip m n) (num_eq-flip n m)
  where
    by : (a b : Bool) → (a ≡ false → b ≡ false) → (b ≡ false → a ≡ false) → a ≡ b
    by true true f g = refl
    by true false f g = g refl
    by false true f g = sym (f refl)
    by false false f g = refl

-- a cut leaves the puts of other numbers as they are
pub live_otherwise : (c : CutRow) (cuts : List CutRow) (p : PutRow) → num_eq c.num p.num ≡ false → is_live (add_row cut_key c cuts) p ≡ is_live cuts p
live_otherwise c cuts p e = ap not (has_num-add_row cut_key p.num c cuts ∙ ap (λ b. b || has_num cut_key p.num cuts) (num_eq-swap p.num c.num ∙ e))

pub not_live : (c : CutRow) (cuts : List CutRow) (p : PutRow) → num_eq c.num p.num ≡ true → is_live (add_row cut_key c cuts) p ≡ false
not_live c cuts p e = ap not (has_num-add_row cut_key p.num c cuts ∙ ap (λ b. b || has_num cut_key p.num cuts) (num_eq-swap p.num c.num ∙ e))

pub seen_otherwise : (c : CutRow) (cuts : List CutRow) (s : Stamp) (ps : List PutRow) → AllByRecursion (λ p. num_eq c.num p.num ≡ true → stamp_lt p.stamp s ≡ false) ps
    → filter (is_seen (add_row cut_key c cuts) (line.At s)) ps ≡ filter (is_seen cuts (line.At s)) ps
seen_otherwise c cuts s [] a = refl
seen_otherwise c cuts s (p ∷ ps) a = ap₂ (λ b z. cond b (p ∷ z) z) (one (num_eq c.num p.num) refl) (seen_otherwise c cuts s ps a.1)
  where
    one : (b : Bool) → num_eq c.num p.num ≡ b → is_seen (add_row cut_key c cuts) (line.At s) p ≡ is_seen cuts (line.At s) p
    one true e = (let f = a.0 e in and_false (is_live (add_row cut_key c cuts) p) (stamp_lt p.stamp s) f ∙ sym (and_false (is_live cuts p) (stamp_lt p.stamp s) f))
    one false e = ap (λ b. b && stamp_lt p.stamp s) (live_otherwise c cuts p e)

pub filter_one : {X : Type 0} (key : X → RowKey) (P : X → Bool) (r : X) (xs : List X) → filter P xs ≡ [] → filter P (add_row key r xs) ≡ filter P (r ∷ [])
filter_one key P r [] e = refl
filter_one key P r (x ∷ xs) e = by (P x) refl e (filter_one key P r xs)
  where
    by : (b : Bool) → P x ≡ b → cond b (x ∷ filter P xs) (filter P xs) ≡ [] → (filter P xs ≡ [] → filter P (add_row key r xs) ≡ filter P (r ∷ [])) → filter P (add_row key r (x ∷ xs)) ≡ filter P (r ∷ [])
    by true f e' again = absurd cc
    by false f e' again = place (key_lt (key r) (key x))
      where
        place : (b : Bool) → filter P (cond b (r ∷ (x ∷ xs)) (x ∷ add_row key r xs)) ≡ filter P (r ∷ [])
        place true = ap (λ z. cond (P r) (r ∷ z) z) (ap (λ b. cond b (x ∷ filter P xs) (filter P xs)) f ∙ e')
        place false = ap (λ b. cond b (x ∷ filter P (add_row key r xs)) (filter P (add_row key r xs))) f ∙ again e'

pub none_stale : (sees : Stamp → Value) (qs : List ReadRow) → AllByRecursion (λ q. q.hit ≡ hit_by sees q) qs → filter (is_stale sees) qs ≡ []
none_stale sees [] a = refl
none_stale sees (q ∷ qs) a = ap (λ b. cond b (q ∷ filter (is_stale sees) qs) (filter (is_stale sees) qs)) (fresh_read-same sees q a.0).0 ∙ none_stale sees qs a.1

-- the hit that a new read is given
pub first_hit : (var : ℕ) (v : Value) (n : Num) (s : Stamp) (w : Window) (give : Option GiveRow)
    → give ≡ (cond ((fresh_read (λ _. v) (first_read n s w)).turn == 0) None (Some (last_give var (fresh_read (λ _. v) (first_read n s w))))) → option_to_list give ≡ changed_of var (λ _. v) (first_read n s w ∷ [])
first_hit var v n s w give e = ap option_to_list e ∙ by (hit_in v w) refl
  where
    by : (h : Option Value) → hit_in v w ≡ h → option_to_list (cond ((given_when (not (hit_eq h None)) h (first_read n s w)).turn == 0) None (Some (last_give var (given_when (not (hit_eq h None)) h (first_read n s w)))))
        ≡ map (next_give var (λ _. v)) (cond (not (hit_eq h None)) (first_read n s w ∷ []) [])
    by None f = refl
    by (Some u) f = ap (λ h. record { num = n; stamp = s; var = var; turn = 1; hit = h } ∷ []) (sym f)

pub after_put-settled : (p : PutRow) (r : Parts) → IsSettled r → IsSettled (after_put p r)
after_put-settled p r s = by (has_num put_key p.num r.puts) refl
  where
    by : (b : Bool) → has_num put_key p.num r.puts ≡ b → IsSettled (cond b r (refreshed (with_put p r)))
    by true e = s
    by false e = refreshed-settled (with_put p r) (add_row-in_order put_key p r.puts s.puts) (add_row-distinct put_key p r.puts e s.puts_once) s.cuts s.cuts_once s.reads s.reads_once

pub after_cut-settled : (c : CutRow) (r : Parts) → IsSettled r → IsSettled (after_cut c r)
after_cut-settled c r s = by (has_num cut_key c.num r.cuts) refl
  where
    by : (b : Bool) → has_num cut_key c.num r.cuts ≡ b → IsSettled (cond b r (refreshed (with_cut c r)))
    by true e = s
    by false e = refreshed-settled (with_cut c r) s.puts s.puts_once (add_row-in_order cut_key c r.cuts s.cuts) (add_row-distinct cut_key c r.cuts e s.cuts_once) s.reads s.reads_once

pub after_watch-settled : (q : ReadRow) (r : Parts) → IsSettled r → IsSettled (after_watch q r)
after_watch-settled q r s = by (has_num read_key q.num r.reads) refl
  where
    by : (b : Bool) → has_num read_key q.num r.reads ≡ b → IsSettled (cond b r (refreshed (with_read q r)))
    by true e = s
    by false e = refreshed-settled (with_read q r) s.puts s.puts_once s.cuts s.cuts_once (add_row-in_order read_key q r.reads s.reads) (add_row-distinct read_key q r.reads e s.reads_once)
