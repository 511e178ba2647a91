-- The periods that a walk along the puts ends are the record's.
use Rattle.std.proofs.Common.{◌≡◌, append-nil, subst, Bool, true, false, cond, not, ◌&&◌, List, [], ◌∷◌, ◌++◌, map, filter, Option, None, Some, refl, arith, ap, ap₂, sym, ◌∙◌}
use Rattle.std.specs.List.{AllByRecursion}
use Rattle.std.proofs.lemmas.Bool.{and_parts}
use Rattle.std.proofs.lemmas.Bool.Decides.{nat_tests}
use Rattle.pm_base.specs.Stamps.{is_after, stamp_lt}
use Rattle.pm_base.specs.declared.rows.CutRow.{CutRow}
use Rattle.pm_base.specs.declared.rows.Parts.{Parts}
use Rattle.pm_base.specs.declared.rows.PutRow.{PutRow}
use Rattle.pm_base.specs.declared.stamp.Line.{Line}
use Rattle.pm_base.specs.declared.stamp.Line.TheVariants as line
use Rattle.pm_base.specs.declared.stamp.Stamp.{Stamp}
use Rattle.pm_base.specs.declared.value.Period.{Period}
use Rattle.pm_base.specs.declared.value.Value.{Value}
use Rattle.pm_periods.specs.Periods.{period_holds, period_value, periods_from, periods_of, values_at, value_after_start}
use Rattle.pm_periods.specs.Records.{in_value_order, is_live, is_seen, record_value, value_after, value_below}
use Rattle.pm_periods.specs.Rows.{IsInOrder, add_row, add_rows, key_lt, put_key, value_key}
use Rattle.pm_periods.specs.Walks.{Marked, held_order, held_value, marked, spans, step}
use Rattle.pm_periods.specs.declared.rows.RowKey.{RowKey}
use Rattle.pm_periods.proofs.Keys.{key_lt-asym, up_to-stamp}
use Rattle.pm_periods.proofs.Ordered.{add_row-in_order, add_rows-in_order, each_row}
use Rattle.pm_periods.proofs.Settling.{rows_of_marked}
use Rattle.pm_periods.proofs.Sorting.{filter_add_rows}
use Rattle.pm_periods.proofs.Walks.{both_true, held_value-marked, in_order-held, later_all, none_below, taken}

-- no put stands before one that it follows, by their stamps
abbrev IsByStamp : List PutRow → Type 0
IsByStamp [] = Unit {0}
IsByStamp (p ∷ ps) = AllByRecursion (λ q. stamp_lt q.stamp p.stamp ≡ false) ps × IsByStamp ps

stamps_equal : (s t : Stamp) → stamp_lt s t ≡ false → stamp_lt t s ≡ false → s ≡ t
stamps_equal s t e f =
    let time : s.time ≡ t.time = grind (arith, nat_tests, e, f) in
    let agent : s.agent ≡ t.agent = grind (arith, nat_tests, e, f) in
    λ i. record { time = time i; agent = agent i }

after_not : (from : Option Stamp) (s t : Stamp) → is_after from s ≡ false → is_after from t ≡ true → stamp_lt s t ≡ true
after_not None s t e f = absurd cc
after_not (Some u) s t e f = grind (arith, nat_tests, e, f)

-- up to the walk's place every stamp after the start is seen by what is left
module _ (r : Parts) where
  abbrev Reached : Option Stamp → Value → List Marked → Type 0
  Reached from v hs = (s : Stamp) → is_after from s ≡ true → record_value r s ≡ held_value (line.At s) hs v

  first_value : (from : Option Stamp) (v : Value) (h : Marked) (hs : List Marked) → IsInOrder held_order (h ∷ hs) → Reached from v (h ∷ hs) → is_after from h.row.stamp ≡ true → v ≡ record_value r h.row.stamp
  first_value from v h hs o at e =
      let same : stamp_lt h.row.stamp h.row.stamp ≡ false = grind (arith, nat_tests) in
      sym (at h.row.stamp e ∙ none_below (line.At h.row.stamp) h.row.stamp (h ∷ hs) v same (same, later_all h hs o.0))

  on_ended : (from : Option Stamp) (v : Value) (h : Marked) (hs : List Marked) → Reached from v (h ∷ hs) → h.live ≡ true → is_after from h.row.stamp ≡ true → (s : Stamp) → stamp_lt h.row.stamp s ≡ true → is_after from s ≡ true → record_value r s ≡ held_value (line.At s) hs (step h v)
  on_ended from v h hs at live e s lt f = at s f ∙ ap (λ b. held_value (line.At s) hs (taken b h v)) (both_true h.live (stamp_lt h.row.stamp s) lt)

  up : (from : Option Stamp) (s t : Stamp) → is_after from s ≡ true → stamp_lt s t ≡ true → is_after from t ≡ true
  up None s t e f = refl
  up (Some u) s t e f = grind (arith, nat_tests, e, f)

  on_passed : (from : Option Stamp) (v : Value) (h : Marked) (hs : List Marked) → Reached from v (h ∷ hs) → (h.live && is_after from h.row.stamp) ≡ false → Reached from (step h v) hs
  on_passed from v h hs at e s f = at s f ∙ ap (λ b. held_value (line.At s) hs (taken b h v)) (either h.live refl)
    where
      either : (b : Bool) → h.live ≡ b → (h.live && stamp_lt h.row.stamp s) ≡ h.live
      either true g = both_true h.live (stamp_lt h.row.stamp s) (after_not from h.row.stamp s (sym (ap (λ b. b && is_after from h.row.stamp) g) ∙ e) f)
      either false g = ap (λ b. b && stamp_lt h.row.stamp s) g ∙ sym g

  last_on : (v : Value) (h : Marked) (hs : List Marked) → held_value line.End (h ∷ hs) v ≡ held_value line.End hs (step h v)
  last_on v h hs = ap (λ b. held_value line.End hs (taken b h v)) (both_true h.live true refl)

  pub spans_are : (cuts : List CutRow) → r.cuts ≡ cuts → (ps : List PutRow) (from : Option Stamp) (v : Value) → IsInOrder held_order (map (marked cuts) ps) → Reached from v (map (marked cuts) ps)
      → value_below r line.End ≡ held_value line.End (map (marked cuts) ps) v → spans from v (map (marked cuts) ps) ≡ periods_of r from ps
  spans_are cuts c [] from v o at last = ap (λ z. record { when = record { from = from; until = None }; value = z } ∷ []) (sym last)
  spans_are cuts c (p ∷ ps) from v o at last = by (is_live cuts p && is_after from p.stamp) refl
      (λ e. spans_are cuts c ps (Some p.stamp) (step (marked cuts p) v) o.1 (λ s f. on_ended from v (marked cuts p) (map (marked cuts) ps) at (and_parts (is_live cuts p) (is_after from p.stamp) e).0 (and_parts (is_live cuts p) (is_after from p.stamp) e).1 s f (up from p.stamp s (and_parts (is_live cuts p) (is_after from p.stamp) e).1 f)) (last ∙ last_on v (marked cuts p) (map (marked cuts) ps)))
      (λ e. spans_are cuts c ps from (step (marked cuts p) v) o.1 (on_passed from v (marked cuts p) (map (marked cuts) ps) at e) (last ∙ last_on v (marked cuts p) (map (marked cuts) ps)))
    where
      live : is_live r.cuts p ≡ is_live cuts p
      live = ap (λ z. is_live z p) c

      by : (b : Bool) → (is_live cuts p && is_after from p.stamp) ≡ b
          → ((is_live cuts p && is_after from p.stamp) ≡ true → spans (Some p.stamp) (step (marked cuts p) v) (map (marked cuts) ps) ≡ periods_of r (Some p.stamp) ps)
          → ((is_live cuts p && is_after from p.stamp) ≡ false → spans from (step (marked cuts p) v) (map (marked cuts) ps) ≡ periods_of r from ps)
          → spans from v (map (marked cuts) (p ∷ ps)) ≡ periods_of r from (p ∷ ps)
      by true e ends goes =
          let value = first_value from v (marked cuts p) (map (marked cuts) ps) o at (and_parts (is_live cuts p) (is_after from p.stamp) e).1 in
          let told : (is_live r.cuts p && is_after from p.stamp) ≡ true = ap (λ b. b && is_after from p.stamp) live ∙ e in
          ap (λ b. cond b (record { when = record { from = from; until = Some p.stamp }; value = v } ∷ []) [] ++ spans (cond b (Some p.stamp) from) (step (marked cuts p) v) (map (marked cuts) ps)) e
          ∙ (ap₂ (λ x y. record { when = record { from = from; until = Some p.stamp }; value = x } ∷ y) value (ends e)
          ∙ ap (λ b. cond b (record { when = record { from = from; until = Some p.stamp }; value = record_value r p.stamp } ∷ periods_of r (Some p.stamp) ps) (periods_of r from ps)) (sym told))
      by false e ends goes =
          let told : (is_live r.cuts p && is_after from p.stamp) ≡ false = ap (λ b. b && is_after from p.stamp) live ∙ e in
          ap (λ b. cond b (record { when = record { from = from; until = Some p.stamp }; value = v } ∷ []) [] ++ spans (cond b (Some p.stamp) from) (step (marked cuts p) v) (map (marked cuts) ps)) e
          ∙ (goes e ∙ ap (λ b. cond b (record { when = record { from = from; until = Some p.stamp }; value = record_value r p.stamp } ∷ periods_of r (Some p.stamp) ps) (periods_of r from ps)) (sym told))

  -- each stamp after the start is in one of these periods, which has what a read there sees
  pub spans_cover : (hs : List Marked) (from : Option Stamp) (v : Value) (s : Stamp) → IsInOrder held_order hs → Reached from v hs → values_at s (spans from v hs) ≡ value_after_start r from s
  spans_cover [] from v s o at = by (is_after from s) refl
    where
      by : (b : Bool) → is_after from s ≡ b → map period_value (cond (b && true) (record { when = record { from = from; until = None }; value = v } ∷ []) []) ≡ cond b (record_value r s ∷ []) []
      by true e = ap (λ z. z ∷ []) (sym (at s e))
      by false e = refl
  spans_cover (h ∷ hs) from v s o at = by (h.live && is_after from h.row.stamp) refl
      (λ e. spans_cover hs (Some h.row.stamp) (step h v) s o.1 (λ t f. on_ended from v h hs at (and_parts h.live (is_after from h.row.stamp) e).0 (and_parts h.live (is_after from h.row.stamp) e).1 t f (up from h.row.stamp t (and_parts h.live (is_after from h.row.stamp) e).1 f)))
      (λ e. spans_cover hs from (step h v) s o.1 (on_passed from v h hs at e))
    where
      ended_one : (a b : Bool) → is_after from s ≡ a → stamp_lt h.row.stamp s ≡ b → is_after from h.row.stamp ≡ true → map period_value (cond (a && not b) (record { when = record { from = from; until = Some h.row.stamp }; value = v } ∷ []) []) ++ cond b (record_value r s ∷ []) [] ≡ cond a (record_value r s ∷ []) []
      ended_one true true e f g = refl
      ended_one true false e f g = ap (λ z. z ∷ []) (sym (at s e ∙ none_below (line.At s) h.row.stamp (h ∷ hs) v f (same, later_all h hs o.0)))
        where
          same : stamp_lt h.row.stamp h.row.stamp ≡ false
          same = grind (arith, nat_tests)
      ended_one false true e f g = absurd (let k = up from h.row.stamp s g f in cc)
      ended_one false false e f g = refl

      by : (b : Bool) → (h.live && is_after from h.row.stamp) ≡ b
          → ((h.live && is_after from h.row.stamp) ≡ true → values_at s (spans (Some h.row.stamp) (step h v) hs) ≡ cond (stamp_lt h.row.stamp s) (record_value r s ∷ []) [])
          → ((h.live && is_after from h.row.stamp) ≡ false → values_at s (spans from (step h v) hs) ≡ value_after_start r from s)
          → values_at s (cond b (record { when = record { from = from; until = Some h.row.stamp }; value = v } ∷ []) [] ++ spans (cond b (Some h.row.stamp) from) (step h v) hs) ≡ value_after_start r from s
      by true e ends goes =
          let p : Period = record { when = record { from = from; until = Some h.row.stamp }; value = v } in
          let rest = spans (Some h.row.stamp) (step h v) hs in
          split (period_holds s p) p rest
          ∙ (ap (λ z. map period_value (cond (period_holds s p) (p ∷ []) []) ++ z) (ends e)
          ∙ ended_one (is_after from s) (stamp_lt h.row.stamp s) refl refl (and_parts h.live (is_after from h.row.stamp) e).1)
        where
          split : (b : Bool) (p : Period) (rest : List Period) → map period_value (cond b (p ∷ filter (period_holds s) rest) (filter (period_holds s) rest)) ≡ map period_value (cond b (p ∷ []) []) ++ values_at s rest
          split true p rest = refl
          split false p rest = refl
      by false e ends goes = goes e

-- Puts of one stamp end one period, in whatever order they stand.
module _ (r : Parts) where
  -- the period that one put ends, where it is live and stands after the start, and what comes of the others
  abbrev One : Bool → Stamp → Option Stamp → (Option Stamp → List Period) → List Period
  One live s from more = cond (live && is_after from s) (record { when = record { from = from; until = Some s }; value = record_value r s } ∷ more (Some s)) (more from)

  swap : (a b : Bool) (s : Stamp) (from : Option Stamp) (more : Option Stamp → List Period) → One a s from (λ f. One b s f more) ≡ One b s from (λ f. One a s f more)
  swap true true s from more = refl
  swap true false s from more = refl
  swap false true s from more = refl
  swap false false s from more = refl

  swap_puts : (p q : PutRow) (ps : List PutRow) (from : Option Stamp) → q.stamp ≡ p.stamp → periods_of r from (p ∷ (q ∷ ps)) ≡ periods_of r from (q ∷ (p ∷ ps))
  swap_puts p q ps from e =
      let a = is_live r.cuts p in
      let b = is_live r.cuts q in
      ap (λ s. One a p.stamp from (λ f. One b s f (λ g. periods_of r g ps))) e
      ∙ (swap a b p.stamp from (λ g. periods_of r g ps) ∙ ap (λ s. One b s from (λ f. One a p.stamp f (λ g. periods_of r g ps))) (sym e))

  past_equals : (p : PutRow) (done ps : List PutRow) → AllByRecursion (λ d. d.stamp ≡ p.stamp) done → (from : Option Stamp) → periods_of r from (p ∷ (done ++ ps)) ≡ periods_of r from (done ++ p ∷ ps)
  past_equals p [] ps a from = refl
  past_equals p (d ∷ ds) ps a from = swap_puts p d (ds ++ ps) from a.0 ∙ ap (λ more. One (is_live r.cuts d) d.stamp from more) (λ i f. past_equals p ds ps a.1 f i)

  module _ (key : PutRow → RowKey) (same : (p : PutRow) → (key p).stamp ≡ p.stamp) where
    equal_stamp : (p d : PutRow) → key_lt (key p) (key d) ≡ true → stamp_lt p.stamp d.stamp ≡ false → d.stamp ≡ p.stamp
    equal_stamp p d e f = stamps_equal d.stamp p.stamp (ap₂ stamp_lt (sym (same d)) (sym (same p)) ∙ up_to-stamp (key p) (key d) (key_lt-asym (key p) (key d) e)) f

    not_later : (d q p : PutRow) → key_lt (key q) (key d) ≡ false → d.stamp ≡ p.stamp → stamp_lt p.stamp q.stamp ≡ false → q.stamp ≡ p.stamp
    not_later d q p e f g = stamps_equal q.stamp p.stamp (ap (stamp_lt q.stamp) (sym f) ∙ (ap₂ stamp_lt (sym (same q)) (sym (same d)) ∙ up_to-stamp (key d) (key q) e)) g

    all_equal : (d p : PutRow) (ds : List PutRow) → d.stamp ≡ p.stamp → AllByRecursion (λ q. key_lt (key q) (key d) ≡ false) ds → AllByRecursion (λ q. stamp_lt p.stamp q.stamp ≡ false) ds → AllByRecursion (λ q. q.stamp ≡ p.stamp) ds
    all_equal d p [] e a b = tt
    all_equal d p (q ∷ qs) e a b = (not_later d q p a.0 e b.0, all_equal d p qs e a.1 b.1)

    -- a put whose stamp is none of theirs before, in its place or behind them
    put_behind : (p : PutRow) (done ps : List PutRow) → IsInOrder key done → AllByRecursion (λ d. stamp_lt p.stamp d.stamp ≡ false) done → (from : Option Stamp) → periods_of r from (add_row key p done ++ ps) ≡ periods_of r from (done ++ p ∷ ps)
    put_behind p [] ps o a from = refl
    put_behind p (d ∷ ds) ps o a from = by (key_lt (key p) (key d)) refl (λ i f. put_behind p ds ps o.1 a.1 f i)
      where
        Behind : Type 0
        Behind = let one : Option Stamp → List Period = λ f. periods_of r f (add_row key p ds ++ ps) in let other : Option Stamp → List Period = λ f. periods_of r f (ds ++ p ∷ ps) in one ≡ other

        by : (b : Bool) → key_lt (key p) (key d) ≡ b → Behind → periods_of r from (cond b (p ∷ (d ∷ ds)) (d ∷ add_row key p ds) ++ ps) ≡ periods_of r from (d ∷ (ds ++ p ∷ ps))
        by true e again = (let f = equal_stamp p d e a.0 in past_equals p (d ∷ ds) ps (f, all_equal d p ds f o.0 a.1) from)
        by false e again = ap (λ more. One (is_live r.cuts d) d.stamp from more) again

    -- puts in order of their stamps end the same periods in any order that keeps that one
    periods_by : (done ps : List PutRow) → IsInOrder key done → AllByRecursion (λ p. AllByRecursion (λ d. stamp_lt p.stamp d.stamp ≡ false) done) ps → IsByStamp ps → (from : Option Stamp) → periods_of r from (add_rows key done ps) ≡ periods_of r from (done ++ ps)
    periods_by done [] o a b from = ap (periods_of r from) (sym (append-nil done))
    periods_by done (p ∷ ps) o a b from =
        periods_by (add_row key p done) ps (add_row-in_order key p done o) (on ps b.0 a.1) b.1 from ∙ put_behind p done ps o a.0 from
      where
        on : (qs : List PutRow) → AllByRecursion (λ q. stamp_lt q.stamp p.stamp ≡ false) qs → AllByRecursion (λ q. AllByRecursion (λ d. stamp_lt q.stamp d.stamp ≡ false) done) qs → AllByRecursion (λ q. AllByRecursion (λ d. stamp_lt q.stamp d.stamp ≡ false) (add_row key p done)) qs
        on [] c d = tt
        on (q ∷ qs) c d = (each_row key (λ z. stamp_lt q.stamp z.stamp ≡ false) p done c.0 d.0, on qs c.1 d.1)

    pub periods_sorted : (ps : List PutRow) → IsByStamp ps → (from : Option Stamp) → periods_of r from (add_rows key [] ps) ≡ periods_of r from ps
    periods_sorted ps b from = periods_by [] ps tt (none ps) b from
      where
        none : (qs : List PutRow) → AllByRecursion (λ q. AllByRecursion (λ (d : PutRow). stamp_lt q.stamp d.stamp ≡ false) []) qs
        none [] = tt
        none (q ∷ qs) = (tt, none qs)

pub by_stamp : (key : PutRow → RowKey) → ((p : PutRow) → (key p).stamp ≡ p.stamp) → (ps : List PutRow) → IsInOrder key ps → IsByStamp ps
by_stamp key same [] o = tt
by_stamp key same (p ∷ ps) o = (go ps o.0, by_stamp key same ps o.1)
  where
    go : (qs : List PutRow) → AllByRecursion (λ q. key_lt (key q) (key p) ≡ false) qs → AllByRecursion (λ q. stamp_lt q.stamp p.stamp ≡ false) qs
    go [] a = tt
    go (q ∷ qs) a = (ap₂ stamp_lt (sym (same q)) (sym (same p)) ∙ up_to-stamp (key p) (key q) a.0, go qs a.1)

pub periods_cover : (r : Parts) → IsInOrder put_key r.puts → (from : Option Stamp) (s : Stamp) → values_at s (periods_from r from) ≡ value_after_start r from s
periods_cover r o from s =
    let ps = in_value_order r.puts in
    let hs = map (marked r.cuts) ps in
    let value : (l : Line) → value_below r l ≡ held_value l hs r.base =
    λ l. ap (λ z. value_after z r.base) (sym (filter_add_rows value_key (is_seen r.cuts l) [] r.puts tt)) ∙ sym (held_value-marked l r.cuts ps r.base) in
    let at : (t : Stamp) → is_after from t ≡ true → record_value r t ≡ held_value (line.At t) hs r.base = λ t e. value (line.At t) in
    let sorted = in_order-held hs (subst (IsInOrder value_key) (sym (rows_of_marked r.cuts ps)) (add_rows-in_order value_key [] r.puts tt)) in
    ap (values_at s) (sym (periods_sorted r value_key (λ p. refl) r.puts (by_stamp put_key (λ p. refl) r.puts o) from) ∙ sym (spans_are r r.cuts refl ps from r.base sorted at (value line.End)))
    ∙ spans_cover r hs from r.base s sorted at
