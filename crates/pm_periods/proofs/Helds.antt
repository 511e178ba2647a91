-- The periods that a record lends are those of its definition.
use Rattle.std.proofs.Common.{◌≡◌, Bool, true, false, cond, not, ◌&&◌, Option, None, Some, List, [], ◌∷◌, ◌++◌, filter, refl, append-nil, append_assoc, ap, ap₂, sym, ◌∙◌, subst}
use Rattle.std.specs.List.{AllByRecursion}
use Rattle.std.specs.Option.{option_to_list}
use Rattle.std.proofs.lemmas.List.Elements.{filter-append}
use Rattle.pm_base.specs.Changes.{applied}
use Rattle.pm_base.specs.Stamps.{stamp_lt}
use Rattle.pm_base.specs.declared.rows.PutRow.{PutRow}
use Rattle.pm_base.specs.declared.rows.ReadRow.{ReadRow}
use Rattle.pm_base.specs.declared.value.Value.{Value}
use Rattle.pm_periods.specs.HeldPeriods.{held_from, held_of, live_puts, sees_last, sees_none}
use Rattle.pm_periods.specs.Inner.{AreSound, parts_by}
use Rattle.pm_periods.specs.Laid.{AreLaid, AreOrdered, IsNotBefore, Sees, SeesNone, Stand, Unseen, base_of, changed, puts_of, reads_of}
use Rattle.pm_periods.specs.Records.{in_value_order}
use Rattle.pm_periods.specs.declared.held.Held.{Held}
use Rattle.pm_periods.specs.declared.record.Withdrawal.{Withdrawal}
use Rattle.pm_periods.proofs.Ends.{live_left}
use Rattle.pm_periods.proofs.Laid.{each_join, each_two}
use Rattle.pm_periods.proofs.Ordered.{filter_all}
use Rattle.pm_periods.proofs.Receipts.{each_append, each_to}
use Rattle.pm_periods.proofs.Sorting.{value_back}
use Rattle.pm_periods.proofs.Splits.{puts-ordered}
use Rattle.pm_periods.proofs.Wholes.{puts_once}

abbrev IsBegun : Option PutRow → Type 0
IsBegun None = ⊥
IsBegun (Some p) = Unit {0}

abbrev AreBegun : List Held → Type 0
AreBegun hs = AllByRecursion (λ (h : Held). IsBegun h.put) hs

filter_none : {X : Type 0} (P : X → Bool) (xs : List X) → AllByRecursion (λ x. P x ≡ false) xs → filter P xs ≡ []
filter_none P [] a = refl
filter_none P (x ∷ xs) a = ap (λ b. cond b (x ∷ filter P xs) (filter P xs)) a.0 ∙ filter_none P xs a.1

-- a read that sees none of the periods' writes
sees_none_of : (hs : List Held) (q : ReadRow) → SeesNone hs q.stamp → sees_none (puts_of hs) q ≡ true
sees_none_of [] q a = refl
sees_none_of (h ∷ hs) q a = one h.put a.0 (sees_none_of hs q a.1)
  where
    one : (o : Option PutRow) → Unseen o q.stamp → sees_none (puts_of hs) q ≡ true → sees_none (option_to_list o ++ puts_of hs) q ≡ true
    one None b again = absurd b
    one (Some p) b again = ap₂ (λ x y. not x && y) b again

-- a read made in one of the periods sees its write
sees_some : (hs : List Held) → AreBegun hs → Stand hs → AllByRecursion (λ (q : ReadRow). sees_none (puts_of hs) q ≡ false) (reads_of hs)
sees_some [] b s = tt
sees_some (h ∷ hs) b s = each_to (λ (q : ReadRow). Sees h.put q.stamp) (λ (q : ReadRow). sees_none (puts_of (h ∷ hs)) q ≡ false) (λ q a. one h.put b.0 q a) (h.reads ++ reads_of hs) s.0
  where
    one : (o : Option PutRow) → IsBegun o → (q : ReadRow) → Sees o q.stamp → sees_none (option_to_list o ++ puts_of hs) q ≡ false
    one None c q a = absurd c
    one (Some p) c q a = ap (λ x. not x && sees_none (puts_of hs) q) a

and_right : (a b : Bool) → b ≡ false → (a && b) ≡ false
and_right true b e = e
and_right false b e = refl

tail_held : (A : List ReadRow) (v : Value) (ys : List Held) → AllByRecursion (λ (q : ReadRow). SeesNone ys q.stamp) A → Stand ys → AreLaid v ys → AreBegun ys → held_from (A ++ reads_of ys) v (puts_of ys) ≡ ys
tail_held A v [] a s l b = refl
tail_held A v (y ∷ zs) a s l b =
    ap (λ z. held_from z v (puts_of (y ∷ zs))) (sym (append_assoc A y.reads (reads_of zs)))
    ∙ by (λ w l'. tail_held (A ++ y.reads) w zs (each_join (λ (q : ReadRow). SeesNone zs q.stamp) A y.reads (each_to (λ (q : ReadRow). SeesNone (y ∷ zs) q.stamp) (λ (q : ReadRow). SeesNone zs q.stamp) (λ q e. e.1) A a) s.1) s.2 l' b.1) y.put refl b.0
  where
    Again : Type 0
    Again = (w : Value) → AreLaid w zs → held_from ((A ++ y.reads) ++ reads_of zs) w (puts_of zs) ≡ zs

    by : Again → (o : Option PutRow) → y.put ≡ o → IsBegun o → held_from ((A ++ y.reads) ++ reads_of zs) v (option_to_list o ++ puts_of zs) ≡ y ∷ zs
    by again None e c = absurd c
    by again (Some p) e c =
        let see = each_append (λ (q : ReadRow). Sees y.put q.stamp) y.reads (reads_of zs) s.0 in
        let front : AllByRecursion (λ (q : ReadRow). sees_last p (puts_of zs) q ≡ false) A =
        each_to (λ (q : ReadRow). SeesNone (y ∷ zs) q.stamp) (λ (q : ReadRow). sees_last p (puts_of zs) q ≡ false) (λ q n. ap (λ x. x && sees_none (puts_of zs) q) (subst (λ z. Unseen z q.stamp) e n.0)) A a in
        let own : AllByRecursion (λ (q : ReadRow). sees_last p (puts_of zs) q ≡ true) y.reads =
        each_two (λ (q : ReadRow). Sees y.put q.stamp) (λ (q : ReadRow). SeesNone zs q.stamp) (λ (q : ReadRow). sees_last p (puts_of zs) q ≡ true) (λ q x n. ap₂ (λ c d. c && d) (subst (λ z. Sees z q.stamp) e x) (sees_none_of zs q n)) y.reads see.0 s.1 in
        let back : AllByRecursion (λ (q : ReadRow). sees_last p (puts_of zs) q ≡ false) (reads_of zs) =
        each_to (λ (q : ReadRow). sees_none (puts_of zs) q ≡ false) (λ (q : ReadRow). sees_last p (puts_of zs) q ≡ false) (λ q f. and_right (stamp_lt p.stamp q.stamp) (sees_none (puts_of zs) q) f) (reads_of zs) (sees_some zs b.1 s.2) in
        let mine : filter (sees_last p (puts_of zs)) ((A ++ y.reads) ++ reads_of zs) ≡ y.reads =
        filter-append (sees_last p (puts_of zs)) (A ++ y.reads) (reads_of zs)
        ∙ (ap₂ (λ x z. x ++ z) (filter-append (sees_last p (puts_of zs)) A y.reads ∙ ap₂ (λ x z. x ++ z) (filter_none (sees_last p (puts_of zs)) A front) (filter_all (sees_last p (puts_of zs)) y.reads own)) (filter_none (sees_last p (puts_of zs)) (reads_of zs) back) ∙ append-nil y.reads) in
        let value : y.value ≡ applied p.change v = l.0 ∙ ap (λ o. changed o v) e in
        (λ i. record { put = sym e i; value = sym value i; reads = mine i } ∷ again (applied p.change v) (subst (λ z. AreLaid z zs) value l.2) i)

begun_of : (o : Option PutRow) (ks : List Held) → AllByRecursion (λ (k : Held). IsNotBefore k.put o) ks → AreBegun ks
begun_of o [] a = tt
begun_of o (k ∷ ks) a = (one k.put a.0, begun_of o ks a.1)
  where
    one : (p : Option PutRow) → IsNotBefore p o → IsBegun p
    one None e = e
    one (Some q) e = tt

from_base : (hs : List Held) → AreOrdered hs → Stand hs → AreLaid (base_of hs) hs → (h : Held) (ks : List Held) → hs ≡ h ∷ ks → h.put ≡ None
    → record { put = None; value = base_of hs; reads = filter (sees_none (puts_of hs)) (reads_of hs) } ∷ held_from (reads_of hs) (base_of hs) (puts_of hs) ≡ hs
from_base hs o s l h ks is none =
    let o' = subst AreOrdered is o in
    let s' = subst Stand is s in
    let l' = subst (λ z. AreLaid (base_of z) z) is l in
    let begun = begun_of h.put ks o'.0 in
    let puts : puts_of (h ∷ ks) ≡ puts_of ks = ap (λ p. option_to_list p ++ puts_of ks) none in
    let mine : filter (sees_none (puts_of ks)) (h.reads ++ reads_of ks) ≡ h.reads =
    filter-append (sees_none (puts_of ks)) h.reads (reads_of ks)
    ∙ (ap₂ (λ x z. x ++ z) (filter_all (sees_none (puts_of ks)) h.reads (each_to (λ (q : ReadRow). SeesNone ks q.stamp) (λ (q : ReadRow). sees_none (puts_of ks) q ≡ true) (λ q n. sees_none_of ks q n) h.reads s'.1)) (filter_none (sees_none (puts_of ks)) (reads_of ks) (sees_some ks begun s'.2)) ∙ append-nil h.reads) in
    let rest = tail_held h.reads h.value ks s'.1 s'.2 l'.2 begun in
    ap (λ z. record { put = None; value = base_of z; reads = filter (sees_none (puts_of z)) (reads_of z) } ∷ held_from (reads_of z) (base_of z) (puts_of z)) is
    ∙ (ap (λ ps. record { put = None; value = h.value; reads = filter (sees_none ps) (h.reads ++ reads_of ks) } ∷ held_from (h.reads ++ reads_of ks) h.value ps) puts
    ∙ ((λ i. record { put = sym none i; value = h.value; reads = mine i } ∷ rest i) ∙ sym is))

pub held_is : (hs : List Held) (ws : List Withdrawal) → AreSound hs ws → hs ≡ held_of (parts_by hs ws)
held_is [] ws s = absurd s.begins
held_is (h ∷ ks) ws s =
    let hs : List Held = h ∷ ks in
    let live : live_puts (parts_by hs ws) ≡ puts_of hs = ap in_value_order (live_left hs ws s) ∙ value_back (puts_of hs) (puts-ordered hs s.order) (puts_once hs ws s.once) in
    sym (ap (λ ps. record { put = None; value = base_of hs; reads = filter (sees_none ps) (reads_of hs) } ∷ held_from (reads_of hs) (base_of hs) ps) live ∙ from_base hs s.order s.stand s.laid h ks refl s.begins)
