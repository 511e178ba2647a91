-- Reads and the hits that they are given.
use Rattle.std.proofs.Common.{◌≡◌, ◌≢◌, ◌↔◌, ◌+◌, ◌<◌, ◌^◌, length, get_or, take, IsTrue, ℕ, Bool, true, false, cond, not, ◌||◌, List, [], ◌∷◌, ◌++◌, map, filter, refl, ap, ap₂, sym, ◌∙◌, subst, Option, Some, None}
use Rattle.std.specs.List.{AllByRecursion}
use Rattle.std.specs.Ordering.{int_eq}
use Rattle.std.proofs.lemmas.Bool.{and_from, and_parts, or_parts}
use Rattle.std.proofs.lemmas.Bool.Decides.{Decides-int_eq}
use Rattle.std.proofs.lemmas.List.{map-append, take_more}
use Rattle.std.proofs.lemmas.List.Elements.{filter-append}
use Rattle.pm_base.specs.Changes.{value_eq}
use Rattle.pm_base.specs.declared.rows.ReadRow.{ReadRow}
use Rattle.pm_base.specs.declared.stamp.Stamp.{Stamp}
use Rattle.pm_base.specs.declared.value.Value.{Value}
use Rattle.pm_periods.specs.Records.{HaveTurns, changed_of, fresh_read, given_when, hit_by, hit_eq, is_stale, next_give, with_hit}
use Rattle.pm_base.specs.Stamps.{num_eq}
use Rattle.pm_periods.specs.Rows.{AreDistinct, IsInOrder, has_num, key_lt, read_key}

pub hit_eq-self : (h : Option Value) → hit_eq h h ≡ true
hit_eq-self None = refl
hit_eq-self (Some v) = and_from (int_eq v.x v.x) (int_eq v.y v.y) ((Decides-int_eq v.x v.x).1 refl) ((Decides-int_eq v.y v.y).1 refl)

pub value_eq-same : (v w : Value) → value_eq v w ≡ true → v ≡ w
value_eq-same v w e = (
    let p = and_parts (int_eq v.x w.x) (int_eq v.y w.y) e in
    let x : v.x ≡ w.x = (Decides-int_eq v.x w.x).0 p.0 in
    let y : v.y ≡ w.y = (Decides-int_eq v.y w.y).0 p.1 in
    λ i. record { x = x i; y = y i })

pub hit_eq-same : (h k : Option Value) → hit_eq h k ≡ true → h ≡ k
hit_eq-same None None e = refl
hit_eq-same None (Some w) e = absurd cc
hit_eq-same (Some v) None e = absurd cc
hit_eq-same (Some v) (Some w) e = (
    let p = and_parts (int_eq v.x w.x) (int_eq v.y w.y) e in
    let x : v.x ≡ w.x = (Decides-int_eq v.x w.x).0 p.0 in
    let y : v.y ≡ w.y = (Decides-int_eq v.y w.y).0 p.1 in
    λ i. Some (record { x = x i; y = y i }))

-- a read that has its hit is left as it is
pub fresh_read-same : (sees : Stamp → Value) (q : ReadRow) → q.hit ≡ hit_by sees q → (is_stale sees q ≡ false) × (fresh_read sees q ≡ q)
fresh_read-same sees q e = (stale, ap (λ b. given_when b (hit_by sees q) q) stale)
  where
    stale : is_stale sees q ≡ false
    stale = ap not (ap (λ h. hit_eq (hit_by sees q) h) e ∙ hit_eq-self (hit_by sees q))

pub fresh_read-key : (sees : Stamp → Value) (q : ReadRow) → read_key (fresh_read sees q) ≡ read_key q
fresh_read-key sees q = by (is_stale sees q)
  where
    by : (b : Bool) → read_key (given_when b (hit_by sees q) q) ≡ read_key q
    by true = refl
    by false = refl

-- afterwards it has its hit
pub fresh_read-hit : (sees : Stamp → Value) (q : ReadRow) → (fresh_read sees q).hit ≡ hit_by sees (fresh_read sees q)
fresh_read-hit sees q = by (hit_eq (hit_by sees q) q.hit) refl
  where
    by : (b : Bool) → hit_eq (hit_by sees q) q.hit ≡ b → (given_when (not b) (hit_by sees q) q).hit ≡ hit_by sees (given_when (not b) (hit_by sees q) q)
    by true e = sym (hit_eq-same (hit_by sees q) q.hit e)
    by false e = refl

-- reads that have their hits are left as they are, and none is given
pub fresh_all : (var : ℕ) (sees : Stamp → Value) (qs : List ReadRow) → AllByRecursion (λ q. q.hit ≡ hit_by sees q) qs → (map (fresh_read sees) qs ≡ qs) × (changed_of var sees qs ≡ [])
fresh_all var sees [] a = (refl, refl)
fresh_all var sees (q ∷ qs) a = (let one = fresh_read-same sees q a.0 in let again = fresh_all var sees qs a.1 in
    let stale = one.0 in (ap₂ (λ x xs. x ∷ xs) one.1 again.0, rw stale again.1))

pub changed_of-append : (var : ℕ) (sees : Stamp → Value) (qs ps : List ReadRow) → changed_of var sees (qs ++ ps) ≡ changed_of var sees qs ++ changed_of var sees ps
changed_of-append var sees qs ps = ap (map (next_give var sees)) (filter-append (is_stale sees) qs ps) ∙ map-append (next_give var sees) (filter (is_stale sees) qs) (filter (is_stale sees) ps)

-- what a read is given depends on what is seen at its stamp alone
pub changed_of-one : (var : ℕ) (sees : Stamp → Value) (q : ReadRow) → changed_of var (λ _. sees q.stamp) (q ∷ []) ≡ changed_of var sees (q ∷ [])
changed_of-one var sees q = by (is_stale sees q)
  where
    by : (b : Bool) → map (next_give var (λ _. sees q.stamp)) (cond b (q ∷ []) []) ≡ map (next_give var sees) (cond b (q ∷ []) [])
    by true = refl
    by false = refl

pub hits_settled : (sees : Stamp → Value) (qs : List ReadRow) → AllByRecursion (λ q. q.hit ≡ hit_by sees q) (map (fresh_read sees) qs)
hits_settled sees [] = tt
hits_settled sees (q ∷ qs) = (fresh_read-hit sees q, hits_settled sees qs)

pub hits_set : (sees : Stamp → Value) (qs : List ReadRow) → AllByRecursion (λ q. q.hit ≡ hit_by sees q) (map (with_hit sees) qs)
hits_set sees [] = tt
hits_set sees (q ∷ qs) = (refl, hits_set sees qs)

-- reads that have their hits get the same ones
pub with_hit-all : (sees : Stamp → Value) (qs : List ReadRow) → AllByRecursion (λ q. q.hit ≡ hit_by sees q) qs → map (with_hit sees) qs ≡ qs
with_hit-all sees [] a = refl
with_hit-all sees (q ∷ qs) a = (let e = a.0 in
    ap₂ (λ x xs. x ∷ xs) (λ i. record { num = q.num; stamp = q.stamp; window = q.window; turn = q.turn; hit = sym e i }) (with_hit-all sees qs a.1))

-- rows whose keys stay
module _ (g : ReadRow → ReadRow) (same : (q : ReadRow) → read_key (g q) ≡ read_key q) where
  pub map_in_order : (qs : List ReadRow) → IsInOrder read_key qs → IsInOrder read_key (map g qs)
  map_in_order [] o = tt
  map_in_order (q ∷ qs) o = (go qs o.0, map_in_order qs o.1)
    where
      go : (ps : List ReadRow) → AllByRecursion (λ p. key_lt (read_key p) (read_key q) ≡ false) ps → AllByRecursion (λ p. key_lt (read_key p) (read_key (g q)) ≡ false) (map g ps)
      go [] a = tt
      go (p ∷ ps) a = (ap₂ key_lt (same p) (same q) ∙ a.0, go ps a.1)

  pub map_distinct : (qs : List ReadRow) → AreDistinct read_key qs → AreDistinct read_key (map g qs)
  map_distinct [] d = tt
  map_distinct (q ∷ qs) d = (go qs d.0, map_distinct qs d.1)
    where
      go : (ps : List ReadRow) → has_num read_key (read_key q).num ps ≡ false → has_num read_key (read_key (g q)).num (map g ps) ≡ false
      go [] e = refl
      go (p ∷ ps) e = (let o = or_parts (num_eq (read_key q).num (read_key p).num) (has_num read_key (read_key q).num ps) e in
          let f : num_eq (read_key (g q)).num (read_key (g p)).num ≡ false = (λ i. num_eq (same q i).num (same p i).num) ∙ o.0 in
          let h = go ps o.1 in
          ap₂ (λ a b. a || b) f h)

pub fresh_in_order : (sees : Stamp → Value) (qs : List ReadRow) → IsInOrder read_key qs → IsInOrder read_key (map (fresh_read sees) qs)
fresh_in_order sees qs o = map_in_order (fresh_read sees) (fresh_read-key sees) qs o

pub fresh_distinct : (sees : Stamp → Value) (qs : List ReadRow) → AreDistinct read_key qs → AreDistinct read_key (map (fresh_read sees) qs)
fresh_distinct sees qs d = map_distinct (fresh_read sees) (fresh_read-key sees) qs d

pub with_hit_in_order : (sees : Stamp → Value) (qs : List ReadRow) → IsInOrder read_key qs → IsInOrder read_key (map (with_hit sees) qs)
with_hit_in_order sees qs o = map_in_order (with_hit sees) (λ q. refl) qs o

pub with_hit_distinct : (sees : Stamp → Value) (qs : List ReadRow) → AreDistinct read_key qs → AreDistinct read_key (map (with_hit sees) qs)
with_hit_distinct sees qs d = map_distinct (with_hit sees) (λ q. refl) qs d

-- a read is given a hit exactly where it has another one than it was last given
pub is_stale-tells : (sees : Stamp → Value) (q : ReadRow) → IsTrue (is_stale sees q) ↔ (hit_by sees q ≢ q.hit)
is_stale-tells sees q = by (hit_eq (hit_by sees q) q.hit) refl
  where
    by : (b : Bool) → hit_eq (hit_by sees q) q.hit ≡ b → IsTrue (not b) ↔ (hit_by sees q ≢ q.hit)
    by true e = ((λ h. absurd cc), λ h. absurd (h (hit_eq-same (hit_by sees q) q.hit e)))
    by false e = ((λ h same. (let f = ap (λ z. hit_eq (hit_by sees q) z) (sym same) ∙ hit_eq-self (hit_by sees q) in absurd cc)), λ h. refl)

each_push : {X : Type 0} (P : X → Type 0) (xs : List X) (x : X) → AllByRecursion P xs → P x → AllByRecursion P (xs ++ x ∷ [])
each_push P [] x a p = (p, tt)
each_push P (y ∷ ys) x a p = (a.0, each_push P ys x a.1 p)

pub have_more : (qs : List ReadRow) (i : ℕ) (d : ReadRow) → i < length qs → HaveTurns (take i qs) → (get_or qs i d).turn < 2 ^ 63 → HaveTurns (take (i + 1) qs)
have_more qs i d lt a b = subst HaveTurns (sym (take_more qs i d lt)) (each_push (λ (q : ReadRow). q.turn < 2 ^ 63) (take i qs) (get_or qs i d) a b)
