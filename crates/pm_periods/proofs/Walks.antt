-- The walk along the puts tells what is seen at its line, and leaves what is to come.
use Rattle.std.proofs.Common.{◌≡◌, Bool, true, false, cond, ◌&&◌, List, [], ◌∷◌, map, filter, refl, arith}
use Rattle.std.specs.List.{AllByRecursion}
use Rattle.std.proofs.lemmas.Bool.Decides.{nat_tests}
use Rattle.pm_base.specs.Changes.{applied}
use Rattle.pm_base.specs.Stamps.{is_below, stamp_lt}
use Rattle.pm_base.specs.declared.rows.CutRow.{CutRow}
use Rattle.pm_base.specs.declared.rows.PutRow.{PutRow}
use Rattle.pm_base.specs.declared.stamp.Line.{Line}
use Rattle.pm_base.specs.declared.stamp.Line.TheVariants as line
use Rattle.pm_base.specs.declared.stamp.Stamp.{Stamp}
use Rattle.pm_base.specs.declared.value.Value.{Value}
use Rattle.pm_periods.specs.Records.{is_seen, value_after}
use Rattle.pm_periods.specs.Rows.{IsInOrder, key_lt, value_key}
use Rattle.pm_periods.specs.Walks.{Marked, held_order, held_row, held_value, marked}
use Rattle.pm_periods.proofs.Keys.{up_to-stamp}

-- a stamp that isn't earlier than one not below the line isn't below the line
pub not_below-later : (s t : Stamp) (l : Line) → stamp_lt t s ≡ false → is_below s l ≡ false → is_below t l ≡ false
not_below-later s t (line.At u) e f = grind (arith, nat_tests, e, f)
not_below-later s t line.End e f = f

-- past a put that isn't below the line none is
pub none_below : (l : Line) (s : Stamp) (hs : List Marked) (v : Value) → is_below s l ≡ false → AllByRecursion (λ h. stamp_lt h.row.stamp s ≡ false) hs → held_value l hs v ≡ v
none_below l s [] v e a = refl
none_below l s (h ∷ hs) v e a = (let f = not_below-later s h.row.stamp l a.0 e in
    let out : (h.live && is_below h.row.stamp l) ≡ false = rw f (neither h.live) in
    rw out (none_below l s hs v e a.1))
  where
    neither : (b : Bool) → (b && false) ≡ false
    neither true = refl
    neither false = refl

pub later_all : (h : Marked) (hs : List Marked) → AllByRecursion (λ k. key_lt (held_order k) (held_order h) ≡ false) hs → AllByRecursion (λ k. stamp_lt k.row.stamp h.row.stamp ≡ false) hs
later_all h [] a = tt
later_all h (k ∷ hs) a = (up_to-stamp (held_order h) (held_order k) a.0, later_all h hs a.1)

abbrev pub taken : Bool → Marked → Value → Value
taken b h v = cond b (applied h.row.change v) v

pub both_true : (b c : Bool) → c ≡ true → (b && c) ≡ b
both_true true c e = e
both_true false c e = refl

-- what is seen is what the definition says, where each put is marked as it is
pub held_value-marked : (l : Line) (cuts : List CutRow) (ps : List PutRow) (v : Value) → held_value l (map (marked cuts) ps) v ≡ value_after (filter (is_seen cuts l) ps) v
held_value-marked l cuts [] v = refl
held_value-marked l cuts (p ∷ ps) v = by (is_seen cuts l p) (held_value-marked l cuts ps (applied p.change v)) (held_value-marked l cuts ps v)
  where
    by : (b : Bool) → held_value l (map (marked cuts) ps) (applied p.change v) ≡ value_after (filter (is_seen cuts l) ps) (applied p.change v) → held_value l (map (marked cuts) ps) v ≡ value_after (filter (is_seen cuts l) ps) v
        → held_value l (map (marked cuts) ps) (taken b (marked cuts p) v) ≡ value_after (cond b (p ∷ filter (is_seen cuts l) ps) (filter (is_seen cuts l) ps)) v
    by true there away = there
    by false there away = away

pub in_order-held : (hs : List Marked) → IsInOrder value_key (map held_row hs) → IsInOrder held_order hs
in_order-held [] o = tt
in_order-held (h ∷ hs) o = (go hs o.0, in_order-held hs o.1)
  where
    go : (ks : List Marked) → AllByRecursion (λ p. key_lt (value_key p) (held_order h) ≡ false) (map held_row ks) → AllByRecursion (λ k. key_lt (held_order k) (held_order h) ≡ false) ks
    go [] a = tt
    go (k ∷ ks) a = (a.0, go ks a.1)

pub in_order-rows : (hs : List Marked) → IsInOrder held_order hs → IsInOrder value_key (map held_row hs)
in_order-rows [] o = tt
in_order-rows (h ∷ hs) o = (go hs o.0, in_order-rows hs o.1)
  where
    go : (ks : List Marked) → AllByRecursion (λ k. key_lt (held_order k) (held_order h) ≡ false) ks → AllByRecursion (λ p. key_lt (value_key p) (held_order h) ≡ false) (map held_row ks)
    go [] a = tt
    go (k ∷ ks) a = (a.0, go ks a.1)
