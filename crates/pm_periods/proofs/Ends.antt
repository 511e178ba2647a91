-- The periods that a record tells are those that its live writes begin.
use Rattle.std.proofs.Common.{◌≡◌, Bool, true, false, cond, ◌&&◌, Option, None, Some, List, [], ◌∷◌, ◌++◌, map, filter, refl, append-nil, ap, ap₂, sym, ◌∙◌, subst}
use Rattle.std.specs.List.{AllByRecursion}
use Rattle.std.specs.Option.{option_to_list}
use Rattle.std.proofs.lemmas.List.Elements.{filter-append}
use Rattle.pm_base.specs.Stamps.{is_after, is_below}
use Rattle.pm_base.specs.declared.rows.CutRow.{CutRow}
use Rattle.pm_base.specs.declared.rows.Parts.{Parts}
use Rattle.pm_base.specs.declared.rows.PutRow.{PutRow}
use Rattle.pm_base.specs.declared.stamp.Line.{Line}
use Rattle.pm_base.specs.declared.stamp.Line.TheVariants as line
use Rattle.pm_base.specs.declared.stamp.Stamp.{Stamp}
use Rattle.pm_base.specs.declared.value.Period.{Period}
use Rattle.pm_base.specs.declared.value.Value.{Value}
use Rattle.pm_periods.specs.Inner.{AreSound, parts_by}
use Rattle.pm_periods.specs.Laid.{base_of, changed, cut_of, puts_of, withdrawn_of}
use Rattle.pm_periods.specs.Periods.{periods_from, periods_of}
use Rattle.pm_periods.specs.Records.{is_live, is_seen, record_value, value_after, value_below}
use Rattle.pm_periods.specs.Rows.{IsInOrder, add_rows, put_key, value_key}
use Rattle.pm_periods.specs.Walks.{alive, ended_by, held_value, marked, spans, start_by}
use Rattle.pm_periods.specs.declared.held.Held.{Held}
use Rattle.pm_periods.specs.declared.record.Withdrawal.{Withdrawal}
use Rattle.pm_periods.proofs.Ordered.{filter_all}
use Rattle.pm_periods.proofs.Settling.{rows_of_marked}
use Rattle.pm_periods.proofs.Sorting.{filter_add_rows}
use Rattle.pm_periods.proofs.Spans.{by_stamp, periods_sorted, spans_are}
use Rattle.pm_periods.proofs.Splits.{puts-ordered}
use Rattle.pm_periods.proofs.Walks.{held_value-marked, in_order-held}
use Rattle.pm_periods.proofs.Wholes.{dead_of, live_of, sound_sees}

-- past one period
pub span_step : (from : Option Stamp) (v : Value) (h : Held) (hs : List Held) → h.value ≡ changed h.put v
    → spans from v (map alive (option_to_list h.put ++ puts_of hs)) ≡ ended_by from v h.put ++ spans (start_by from h.put) h.value (map alive (puts_of hs))
span_step from v h hs e = by h.put ∙ ap (λ z. ended_by from v h.put ++ spans (start_by from h.put) z (map alive (puts_of hs))) (sym e)
  where
    by : (o : Option PutRow) → spans from v (map alive (option_to_list o ++ puts_of hs)) ≡ ended_by from v o ++ spans (start_by from o) (changed o v) (map alive (puts_of hs))
    by None = refl
    by (Some p) = refl

-- puts that aren't live end no period
periods_live : (r : Parts) (ps : List PutRow) (from : Option Stamp) → periods_of r from ps ≡ periods_of r from (filter (is_live r.cuts) ps)
periods_live r [] from = refl
periods_live r (p ∷ ps) from = by (is_live r.cuts p) refl (λ i f. periods_live r ps f i)
  where
    Same : Type 0
    Same = let one : Option Stamp → List Period = λ f. periods_of r f ps in let other : Option Stamp → List Period = λ f. periods_of r f (filter (is_live r.cuts) ps) in one ≡ other

    by : (b : Bool) → is_live r.cuts p ≡ b → Same → periods_of r from (p ∷ ps) ≡ periods_of r from (cond b (p ∷ filter (is_live r.cuts) ps) (filter (is_live r.cuts) ps))
    by true e again = ap (λ more. cond (is_live r.cuts p && is_after from p.stamp) (record { when = record { from = from; until = Some p.stamp }; value = record_value r p.stamp } ∷ more (Some p.stamp)) (more from)) again
    by false e again =
        ap (λ b. cond (b && is_after from p.stamp) (record { when = record { from = from; until = Some p.stamp }; value = record_value r p.stamp } ∷ periods_of r (Some p.stamp) ps) (periods_of r from ps)) e
        ∙ ap (λ (more : Option Stamp → List Period). more from) again

filter_none : {X : Type 0} (P : X → Bool) (xs : List X) → AllByRecursion (λ x. P x ≡ false) xs → filter P xs ≡ []
filter_none P [] a = refl
filter_none P (x ∷ xs) a = ap (λ b. cond b (x ∷ filter P xs) (filter P xs)) a.0 ∙ filter_none P xs a.1

all_alive : (cuts : List CutRow) (ps : List PutRow) → AllByRecursion (λ (p : PutRow). is_live cuts p ≡ true) ps → map (marked cuts) ps ≡ map alive ps
all_alive cuts [] a = refl
all_alive cuts (p ∷ ps) a = ap₂ (λ b z. record { row = p; live = b } ∷ z) a.0 (all_alive cuts ps a.1)

pub live_left : (hs : List Held) (ws : List Withdrawal) → AreSound hs ws → filter (is_live (map cut_of ws)) (add_rows put_key [] (puts_of hs ++ withdrawn_of ws)) ≡ add_rows put_key [] (puts_of hs)
live_left hs ws s =
    let live = is_live (map cut_of ws) in
    filter_add_rows put_key live [] (puts_of hs ++ withdrawn_of ws) tt
    ∙ ap (add_rows put_key []) (filter-append live (puts_of hs) (withdrawn_of ws)
    ∙ (ap₂ (λ x y. x ++ y) (filter_all live (puts_of hs) (live_of (map cut_of ws) (puts_of hs) s.live)) (filter_none live (withdrawn_of ws) (dead_of ws s.named)) ∙ append-nil (puts_of hs)))

pub periods_whole : (hs : List Held) (ws : List Withdrawal) → AreSound hs ws → (from : Option Stamp) → spans from (base_of hs) (map alive (puts_of hs)) ≡ periods_from (parts_by hs ws) from
periods_whole hs ws s from =
    let r = parts_by hs ws in
    let ps = puts_of hs in
    let cuts = map cut_of ws in
    let live = live_of cuts ps s.live in
    let order = puts-ordered hs s.order in
    let marks = all_alive cuts ps live in
    let held : (l : Line) → value_below r l ≡ held_value l (map (marked cuts) ps) r.base =
    λ l. sound_sees hs ws s l ∙ (ap (λ z. value_after z r.base) (seen l ps live) ∙ sym (held_value-marked l cuts ps r.base)) in
    let sorted = in_order-held (map (marked cuts) ps) (subst (IsInOrder value_key) (sym (rows_of_marked cuts ps)) order) in
    ap (spans from r.base) (sym marks)
    ∙ (spans_are r cuts refl ps from r.base sorted (λ t e. held (line.At t)) (held line.End)
    ∙ (sym (periods_sorted r put_key (λ p. refl) ps (by_stamp value_key (λ p. refl) ps order) from)
    ∙ (ap (periods_of r from) (sym (live_left hs ws s)) ∙ sym (periods_live r r.puts from))))
  where
    seen : (l : Line) (ps : List PutRow) → AllByRecursion (λ (p : PutRow). is_live (map cut_of ws) p ≡ true) ps → filter (λ (p : PutRow). is_below p.stamp l) ps ≡ filter (is_seen (map cut_of ws) l) ps
    seen l [] a = refl
    seen l (p ∷ ps) a = ap₂ (λ b z. cond b (p ∷ z) z) (ap (λ b. b && is_below p.stamp l) (sym a.0)) (seen l ps a.1)
