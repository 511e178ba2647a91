-- What a record's value is at each stamp, by its live puts.
use Rattle.std.proofs.Common.{◌≡◌, ◌⊎◌, inl, inr, Bool, true, false, cond, List, [], ◌∷◌, filter, refl, arith, ap, ap₂, sym, ◌∙◌, subst}
use Rattle.std.specs.List.{AllByRecursion}
use Rattle.std.proofs.lemmas.Bool.{cases_Bool}
use Rattle.std.proofs.lemmas.Bool.Decides.{nat_tests}
use Rattle.pm_base.specs.Changes.{applied}
use Rattle.pm_base.specs.Stamps.{IsBefore, stamp_lt, num_eq}
use Rattle.pm_base.specs.declared.rows.CutRow.{CutRow}
use Rattle.pm_base.specs.declared.rows.Parts.{Parts}
use Rattle.pm_base.specs.declared.rows.PutRow.{PutRow}
use Rattle.pm_base.specs.declared.stamp.Line.{Line}
use Rattle.pm_base.specs.declared.stamp.Line.TheVariants as line
use Rattle.pm_base.specs.declared.stamp.Num.{Num}
use Rattle.pm_base.specs.declared.stamp.Stamp.{Stamp}
use Rattle.pm_base.specs.declared.value.Change.{Change}
use Rattle.pm_base.specs.declared.value.Value.{Value}
use Rattle.pm_base.specs.Windows.{IsPair}
use Rattle.pm_periods.specs.Records.{in_value_order, is_seen, record_value, value_after, value_below}
use Rattle.pm_periods.specs.Rows.{AreDistinct, IsInOrder, add_row, add_rows, has_num, key_lt, put_key, value_key}
use Rattle.pm_periods.proofs.Ordered.{add_rows-in_order}
use Rattle.pm_periods.proofs.Sorting.{each_rows, filter_add_rows, sorted-distinct}
use Rattle.pm_sim.specs.Sims.{AtMost, In, IsWide, Past, after, has_cut}
use Rattle.pm_sim.proofs.Lists.{each_in}
use Rattle.pm_sim.proofs.Stamps.{IsUnder, lt_tells, lt_true, lt_false, stamps_same, num_eq_self}

-- the put's change, where it is kept
abbrev pub pick : Bool → PutRow → Value → Value
pick false p v = v
pick true p v = applied p.change v

-- the value after these puts, as far as they are kept
abbrev pub fold_puts : (PutRow → Bool) → List PutRow → Value → Value
fold_puts keep [] v = v
fold_puts keep (p ∷ ps) v = fold_puts keep ps (pick (keep p) p v)

pub fold_is : (keep : PutRow → Bool) (ps : List PutRow) (v : Value)
    → value_after (filter keep ps) v ≡ fold_puts keep ps v
fold_is keep [] v = refl
fold_is keep (p ∷ ps) v = elim (cases_Bool (keep p)) [
  | inl e ↦ rw e (fold_is keep ps (applied p.change v))
  | inr e ↦ rw e (fold_is keep ps v)
]

abbrev pub seen : List CutRow → Stamp → PutRow → Bool
seen cuts s q = is_seen cuts (line.At s) q

tested_same : (f g : PutRow → Bool) (ps : List PutRow)
    → ((q : PutRow) → In q ps → f q ≡ g q) → filter f ps ≡ filter g ps
tested_same f g [] h = refl
tested_same f g (p ∷ ps) h =
    ap₂ (λ b z. cond b (p ∷ z) z) (h p (inl refl)) (tested_same f g ps (λ q i. h q (inr i)))

tested_none : (f : PutRow → Bool) (ps : List PutRow) → ((q : PutRow) → In q ps → f q ≡ false) → filter f ps ≡ []
tested_none f [] h = refl
tested_none f (p ∷ ps) h =
    ap (λ b. cond b (p ∷ filter f ps) (filter f ps)) (h p (inl refl)) ∙ tested_none f ps (λ q i. h q (inr i))

-- two tests that agree on the puts make the same of a value
pub value_same : (f g : PutRow → Bool) (ps : List PutRow) (v : Value) → ((q : PutRow) → In q ps → f q ≡ g q)
    → value_after (in_value_order (filter f ps)) v ≡ value_after (in_value_order (filter g ps)) v
value_same f g ps v h = ap (λ z. value_after (in_value_order z) v) (tested_same f g ps h)

-- a test that no put passes leaves a value as it is
pub value_none : (f : PutRow → Bool) (ps : List PutRow) (v : Value)
    → ((q : PutRow) → In q ps → f q ≡ false) → value_after (in_value_order (filter f ps)) v ≡ v
value_none f ps v h = ap (λ z. value_after (in_value_order z) v) (tested_none f ps h)

-- a record's value by the walk along its puts in the order in which they change it
value_is : (r : Parts) (l : Line) → value_below r l ≡ fold_puts (is_seen r.cuts l) (in_value_order r.puts) r.base
value_is r l = ap (λ z. value_after z r.base) (sym (filter_add_rows value_key (is_seen r.cuts l) [] r.puts tt))
    ∙ fold_is (is_seen r.cuts l) (in_value_order r.puts) r.base

row_stays : (p : PutRow) (ps : List PutRow) (q : PutRow) → In q (p ∷ ps) → In q (add_row value_key p ps)
row_stays p [] q i = i
row_stays p (y ∷ ys) q i = go (key_lt (value_key p) (value_key y)) (row_stays p ys q) i
  where
    go : (b : Bool) → (In q (p ∷ ys) → In q (add_row value_key p ys))
        → In q (p ∷ (y ∷ ys)) → In q (cond b (p ∷ (y ∷ ys)) (y ∷ add_row value_key p ys))
    go true again j = j
    go false again (inl e) = inr (again (inl e))
    go false again (inr (inl e)) = inl e
    go false again (inr (inr j)) = inr (again (inr j))

rows_stay : (done ps : List PutRow) (q : PutRow) → In q done ⊎ In q ps → In q (add_rows value_key done ps)
rows_stay done [] q (inl i) = i
rows_stay done [] q (inr i) = absurd i
rows_stay done (p ∷ ps) q (inl i) = rows_stay (add_row value_key p done) ps q (inl (row_stays p done q (inr i)))
rows_stay done (p ∷ ps) q (inr (inl e)) = rows_stay (add_row value_key p done) ps q (inl (row_stays p done q (inl e)))
rows_stay done (p ∷ ps) q (inr (inr i)) = rows_stay (add_row value_key p done) ps q (inr i)

each_is_in : (ps : List PutRow) → AllByRecursion (λ q. In q ps) ps
each_is_in ps = go ps (λ q i. i)
  where
    go : (qs : List PutRow) → ((q : PutRow) → In q qs → In q ps) → AllByRecursion (λ q. In q ps) qs
    go [] h = tt
    go (q ∷ qs) h = (h q (inl refl), go qs (λ z i. h z (inr i)))

-- the puts in the order in which they change the value are the same ones
was_in : (ps : List PutRow) (q : PutRow) → In q (in_value_order ps) → In q ps
was_in ps q i = each_in (λ z. In z ps) (in_value_order ps) q (each_rows value_key (λ z. In z ps) [] ps tt (each_is_in ps)) i

pub fold_none : (f : PutRow → Bool) (ps : List PutRow) (v : Value)
    → ((q : PutRow) → In q ps → f q ≡ false) → fold_puts f ps v ≡ v
fold_none f [] v h = refl
fold_none f (p ∷ ps) v h =
    ap (λ b. fold_puts f ps (pick b p v)) (h p (inl refl)) ∙ fold_none f ps v (λ q i. h q (inr i))

-- no row has that number
pub has_out : (m : Num) (ps : List PutRow) (q : PutRow) → has_num put_key m ps ≡ false → In q ps → q.num ≡ m → ⊥
has_out m [] q h i e = i
has_out m (p ∷ ps) q h (inl f) e =
    let t : num_eq m p.num ≡ true =
    subst (λ z. num_eq z p.num ≡ true) (ap (λ (z : PutRow). z.num) (sym f) ∙ e) (num_eq_self p.num) in
    grind (arith, h, t)
has_out m (p ∷ ps) q h (inr i) e = has_out m ps q (grind (arith, h)) i e

-- the first row isn't after the other, and has another number
abbrev UpTo : PutRow → PutRow → Type 0
UpTo q r = (key_lt (value_key r) (value_key q) ≡ false) × (q.num ≡ r.num → ⊥)

-- f keeps one row more than g, and none behind it
pub fold_one : (f g : PutRow → Bool) (r : PutRow) (ps : List PutRow) (v : Value)
    → IsInOrder value_key ps → AreDistinct put_key ps → In r ps → f r ≡ true → g r ≡ false
    → ((q : PutRow) → In q ps → UpTo q r → f q ≡ g q)
    → ((q : PutRow) → In q ps → UpTo r q → (f q ≡ false) × (g q ≡ false))
    → fold_puts f ps v ≡ applied r.change (fold_puts g ps v)
fold_one f g r [] v o d i fr gr early late = absurd i
fold_one f g r (p ∷ ps) v o d (inl e) fr gr early late =
    let fp : f p ≡ true = ap f (sym e) ∙ fr in
    let gp : g p ≡ false = ap g (sym e) ∙ gr in
    let behind : (q : PutRow) → In q ps → (f q ≡ false) × (g q ≡ false) = λ q j. late q (inr j) (
      subst (λ (z : PutRow). key_lt (value_key q) (value_key z) ≡ false)
          (sym e) (each_in (λ (y : PutRow). key_lt (value_key y) (value_key p) ≡ false) ps q o.0 j),
      λ same. has_out p.num ps q d.0 j (sym same ∙ ap (λ (z : PutRow). z.num) e),
    ) in
    ap (λ b. fold_puts f ps (pick b p v)) fp ∙ (fold_none f ps (applied p.change v) (λ q j. (behind q j).0)
    ∙ (ap (λ (z : PutRow). applied z.change v) (sym e) ∙ ap
    (applied r.change) (sym (ap (λ b. fold_puts g ps (pick b p v)) gp ∙ fold_none g ps v (λ q j. (behind q j).1)))))
fold_one f g r (p ∷ ps) v o d (inr i) fr gr early late =
    ap (λ b. fold_puts f ps (pick b p v)) (early p (inl refl) (
      each_in (λ (y : PutRow). key_lt (value_key y) (value_key p)
          ≡ false) ps r o.0 i,
      λ same. has_out p.num ps r d.0 i (sym same),
    ))
    ∙ fold_one f g r ps (pick (g p) p v) o.1 d.1 i fr gr (λ q j. early q (inr j)) (λ q j. late q (inr j))

-- a put at this stamp with this change, which no received cut names
abbrev pub LiveIn : Parts → Stamp → Change → Type 0
LiveIn r s x = (q : PutRow) × In q r.puts × (has_cut q.num r.cuts ≡ false) × (q.stamp ≡ s) × (q.change ≡ x)

pub steady_in : (r : Parts) (c d : Stamp) → AtMost c d
    → ((s : Stamp) (x : Change) → LiveIn r s x → AtMost c s → IsBefore s d → ⊥) → record_value r c ≡ record_value r d
steady_in r c d le none =
    value_same (seen r.cuts c) (seen r.cuts d) r.puts r.base (λ q i. same q i (has_cut q.num r.cuts) refl)
  where
    same : (q : PutRow) → In q r.puts → (b : Bool) → has_cut q.num r.cuts ≡ b → seen r.cuts c q ≡ seen r.cuts d q
    same q i true e = rw e refl
    same q i false e = elim (lt_tells q.stamp c) [
      | inl w ↦ (let a = w.0 in let b : stamp_lt q.stamp d ≡ true =
          lt_true q.stamp d (let k = w.1 in grind (arith, k, le)) in rw (a, b))
      | inr w ↦ (let a = w.0 in let b : stamp_lt q.stamp d ≡ false = lt_false q.stamp d (elim (lt_tells q.stamp
          d) [ inl k ↦ absurd (none q.stamp q.change (q, i, e, refl, refl) w.1 k.1) | inr k ↦ k.1 ]) in rw (a, b))
    ]

pub at_last_in : (r : Parts) (l : Line) (c : Stamp) → IsUnder l c
    → ((s : Stamp) (x : Change) → LiveIn r s x → AtMost c s → Past l s → ⊥) → record_value r c ≡ value_below r l
at_last_in r (line.At l) c u none = steady_in r c l u none
at_last_in r line.End c u none =
    value_same (seen r.cuts c) (is_seen r.cuts line.End) r.puts r.base (λ q i. same q i (has_cut q.num r.cuts) refl)
  where
    same : (q : PutRow)
        → In q r.puts → (b : Bool) → has_cut q.num r.cuts ≡ b → seen r.cuts c q ≡ is_seen r.cuts line.End q
    same q i true e = rw e refl
    same q i false e = elim (lt_tells q.stamp c) [
      | inl w ↦ (let a = w.0 in rw (a, e))
      | inr w ↦ absurd (none q.stamp q.change (q, i, e, refl, refl) w.1 tt)
    ]

-- right after its stamp a live put has changed the value, where no other put is live there
pub after_put_in : (r : Parts) (s : Stamp) (x : Change)
    → IsInOrder put_key r.puts → AreDistinct put_key r.puts → (live : LiveIn r s x)
    → ((q : PutRow) → In q r.puts → has_cut q.num r.cuts ≡ false → q.stamp ≡ s → q.num ≡ live.0.num)
    → record_value r (after s) ≡ applied x (record_value r s)
after_put_in r s x ordered distinct live one =
    value_is r (line.At (after s))
    ∙ (fold_one (seen r.cuts (after s)) (seen r.cuts s) row ps r.base (add_rows-in_order value_key [] r.puts tt)
    (sorted-distinct put_key value_key r.puts distinct) (rows_stay [] r.puts row (inr live.1)) kept not_yet
    (λ q i lt. early q (was_in r.puts q i) lt (has_cut q.num r.cuts) refl)
    (λ q i lt. late q (was_in r.puts q i) lt (has_cut q.num r.cuts) refl)
    ∙ (ap (λ z. applied z (fold_puts (seen r.cuts s) ps r.base)) live.4 ∙ ap (applied x) (sym (value_is r (line.At s)))))
  where
    row : PutRow
    row = live.0

    ps : List PutRow
    ps = in_value_order r.puts

    at_most_of : (a b : Stamp) → a ≡ b → AtMost a b
    at_most_of a b e = (let t = ap (λ (z : Stamp). z.time) e in let u = ap (λ (z : Stamp). z.agent) e in grind arith)

    kept : seen r.cuts (after s) live.0 ≡ true
    kept = rw (live.2) (let e = lt_true live.0.stamp (after s) (let f = live.3 in let a =
        ap (λ (z : Stamp). z.time) f in let b = ap (λ (z : Stamp). z.agent) f in grind arith) in rw e refl)

    not_yet : seen r.cuts s live.0 ≡ false
    not_yet = rw (live.2) (lt_false live.0.stamp s (at_most_of s live.0.stamp (sym live.3)))

    row_low : (a b : PutRow) → key_lt (value_key b) (value_key a) ≡ false → AtMost a.stamp b.stamp
    row_low a b e = grind (arith, nat_tests, e)

    early : (q : PutRow)
        → In q r.puts → UpTo q row → (b : Bool) → has_cut q.num r.cuts ≡ b → seen r.cuts (after s) q ≡ seen r.cuts s q
    early q i lt true e = rw e refl
    early q i lt false e =
        let low : AtMost q.stamp s = subst (AtMost q.stamp) live.3 (row_low q row lt.0) in
        elim (lt_tells q.stamp s) [
          | inl w ↦ (let a = w.0 in let b = lt_true q.stamp (after s) (let k = w.1 in grind (arith, k)) in rw (a, b))
          | inr w ↦ absurd (lt.1 (one q i
              e (stamps_same q.stamp s (let k = w.1 in grind (arith, k, low)) (let k = w.1 in grind (arith, k, low)))))
        ]

    late : (q : PutRow) → In q r.puts → UpTo row q
        → (b : Bool) → has_cut q.num r.cuts ≡ b → (seen r.cuts (after s) q ≡ false) × (seen r.cuts s q ≡ false)
    late q i lt true e = (rw e refl, rw e refl)
    late q i lt false e =
        let high : AtMost s q.stamp = subst (λ z. AtMost z q.stamp) live.3 (row_low row q lt.0) in
        let a = lt_false q.stamp s high in
        elim (lt_tells q.stamp (after s)) [
          | inl w ↦ absurd (lt.1 (sym (one q i e
              (stamps_same q.stamp s (let k = w.1 in grind (arith, k, high)) (let k = w.1 in grind (arith, k, high))))))
          | inr w ↦ (let b = w.0 in (rw (e, b) refl, rw (e, a) refl))
        ]

-- values are pairs of 64 bits where the base is one and each change keeps them so
pub fold_pair : (keep : PutRow → Bool) (ps : List PutRow) (v : Value)
    → IsPair v → ((q : PutRow) → In q ps → IsWide q.change) → IsPair (fold_puts keep ps v)
fold_pair keep [] v h w = h
fold_pair keep (p ∷ ps) v h w = by (keep p) (fold_pair keep ps v h (λ q i. w q (inr i)))
    (fold_pair keep ps (applied p.change v) (w p (inl refl) v h) (λ q i. w q (inr i)))
  where
    by : (b : Bool) → IsPair (fold_puts keep ps v)
        → IsPair (fold_puts keep ps (applied p.change v)) → IsPair (fold_puts keep ps (pick b p v))
    by true x y = y
    by false x y = x

pub value_pair : (r : Parts) (l : Line)
    → IsPair r.base → ((q : PutRow) → In q r.puts → IsWide q.change) → IsPair (value_below r l)
value_pair r l h w =
    subst IsPair (sym (value_is r l))
    (fold_pair (is_seen r.cuts l) (in_value_order r.puts) r.base h (λ q i. w q (was_in r.puts q i)))
