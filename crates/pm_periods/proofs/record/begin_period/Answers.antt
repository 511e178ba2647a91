use Rattle.std.proofs.Common.{◌≡◌, ◌-◌, ◌<◌, ◌++◌, [], ◌∷◌, Some, true, false, length, get_or, take, drop, map, arith, ap, ap₂, sym, ◌∙◌, subst}
use Rattle.std.specs.List.{AllByRecursion}
use Rattle.std.proofs.lemmas.List.{take-append-drop}
use Rattle.pm_base.specs.Changes.{applied}
use Rattle.pm_base.specs.Stamps.{stamp_lt}
use Rattle.pm_base.specs.declared.rows.ReadRow.{ReadRow}
use Rattle.pm_periods.specs.Laid.{AreLinked, IsBehindPut, IsUpToPut, base_of, begun, reads_of, renewed, told, with_reads}
use Rattle.pm_periods.specs.Records.{HaveTurns, changed_of, fresh_read}
use Rattle.pm_periods.specs.Rows.{IsInOrder, read_key}
use Rattle.pm_periods.specs.declared.held.Held.{Held}
use Rattle.pm_periods.proofs.Laid.{begun-place, linked-drop, opened, order-at, turns-at, turns-drop, turns-rows}
use Rattle.pm_periods.proofs.record.begin_period.Goals as goal

pub reads_up_to-split-requires : goal.reads_up_to-split-requires
reads_up_to-split-requires c =
    let hs = c.args.periods.now.items in
    let h = c.index-before.result.now in
    let at = c.place-at.result in
    let e = begun-place c.args.row hs at c.requires.begins (subst (λ z. AllByRecursion (IsBehindPut c.args.row) (drop at z)) c.as_slice.ensures.value c.place-at.ensures.after) in
    let low : at - 1 < length hs = omega (arith, e, ap length c.as_slice.ensures.value, c.place-at.ensures.within) in
    subst (IsInOrder read_key) (sym (c.as_slice-2.ensures ∙ ap (λ (z : Held). z.reads) c.index-before.ensures)) (order-at hs (at - 1) h low c.requires.reads)

pub tell_behind-requires-clause-turns : goal.tell_behind-requires-clause-turns
tell_behind-requires-clause-turns c =
    let hs = c.args.periods.now.items in
    let h = c.index-before.result.now in
    let at = c.place-at.result in
    let e = begun-place c.args.row hs at c.requires.begins (subst (λ z. AllByRecursion (IsBehindPut c.args.row) (drop at z)) c.as_slice.ensures.value c.place-at.ensures.after) in
    let low : at - 1 < length hs = omega (arith, e, ap length c.as_slice.ensures.value, c.place-at.ensures.within) in
    turns-rows c.reads_up_to-split.result c.as_slice-3.result.now (subst HaveTurns (sym (c.as_slice-3.ensures ∙ ap (λ (z : Held). z.reads) c.index-before.ensures)) (turns-at hs (at - 1) h low c.requires.turns))

pub tell_from-requires-clause-linked : goal.tell_from-requires-clause-linked
tell_from-requires-clause-linked c =
    let hs = c.args.periods.now.items in
    subst (λ z. AreLinked (drop c.place-at.result z)) (sym c.as_slice-4.ensures.value) (linked-drop (base_of hs) hs c.place-at.result c.requires.laid)

pub tell_from-requires-clause-turns : goal.tell_from-requires-clause-turns
tell_from-requires-clause-turns c =
    let hs = c.args.periods.now.items in
    subst (λ z. HaveTurns (reads_of (drop c.place-at.result z))) (sym c.as_slice-4.ensures.value) (turns-drop hs c.place-at.result c.requires.turns)

pub later_reads-requires-clause-turns : goal.later_reads-requires-clause-turns
later_reads-requires-clause-turns c =
    let hs = c.args.periods.now.items in
    let h = c.index-before.result.now in
    let at = c.place-at.result in
    let e = begun-place c.args.row hs at c.requires.begins (subst (λ z. AllByRecursion (IsBehindPut c.args.row) (drop at z)) c.as_slice.ensures.value c.place-at.ensures.after) in
    let low : at - 1 < length hs = omega (arith, e, ap length c.as_slice.ensures.value, c.place-at.ensures.within) in
    turns-rows c.reads_up_to-split.result c.as_slice-5.result.now (subst HaveTurns (sym (c.as_slice-5.ensures ∙ ap (λ (z : Held). z.reads) c.index-before.ensures)) (turns-at hs (at - 1) h low c.requires.turns))

pub returns-clause-ok : goal.returns-clause-ok
returns-clause-ok c =
    let hs = c.args.periods.now.items in
    let h : Held = c.index-before.result.now in
    let at = c.place-at.result in
    let row = c.args.row in
    let split = c.reads_up_to-split.result in
    let behind = subst (λ z. AllByRecursion (IsBehindPut row) (drop at z)) c.as_slice.ensures.value c.place-at.ensures.after in
    let up_to = subst (λ z. AllByRecursion (IsUpToPut row) (take at z)) c.as_slice.ensures.value c.place-at.ensures.before in
    let e = begun-place row hs at c.requires.begins behind in
    let low : at - 1 < length hs = omega (arith, e, ap length c.as_slice.ensures.value, c.place-at.ensures.within) in
    let parts = opened h.value hs (at - 1) h h h low in
    let is_h : get_or hs (at - 1) h ≡ h = sym c.index-before.ensures in
    let value : c.apply-value.result ≡ applied row.change h.value = c.apply-value.ensures in
    let late : c.from_vec.result ≡ map (fresh_read (λ _. c.apply-value.result)) (drop split h.reads) =
    c.from_vec.ensures ∙ (c.in_ok-reads.ensures ∙ ap (λ z. map (fresh_read (λ _. c.apply-value.result)) (drop split z)) c.as_slice-5.ensures) in
    let held : record { put = Some row; value = c.apply-value.result; reads = c.from_vec.result } ≡ begun row h.value (drop split h.reads) =
    ap (λ z. record { put = Some row; value = c.apply-value.result; reads = z }) late ∙ ap (λ v. record { put = Some row; value = v; reads = map (fresh_read (λ _. v)) (drop split h.reads) }) value in
    record {
      before = take (at - 1) hs;
      period = h;
      behind = drop at hs;
      early = take split h.reads;
      late = drop split h.reads;
      was = parts.0 ∙ ap₂ (λ y n. take (at - 1) hs ++ y ∷ drop n hs) is_h e;
      split = sym (take-append-drop split h.reads);
      unseen = subst (λ z. AllByRecursion (λ (q : ReadRow). stamp_lt row.stamp q.stamp ≡ false) (take split z)) c.as_slice-2.ensures c.reads_up_to-split.ensures.before;
      seen = subst (λ z. AllByRecursion (λ (q : ReadRow). stamp_lt row.stamp q.stamp ≡ true) (drop split z)) c.as_slice-2.ensures c.reads_up_to-split.ensures.after;
      up_to = subst (AllByRecursion (IsUpToPut row)) (ap (λ n. take n hs) (sym e) ∙ (parts.3 ∙ ap (λ y. take (at - 1) hs ++ y ∷ []) is_h)) up_to;
      later = behind;
      is = c.in_ok-open_period.ensures.ok (at - 1) h e
          ∙ (ap (λ (z : Held). take (at - 1) hs ++ with_reads (take split z.reads) z ∷ (record { put = Some row; value = c.apply-value.result; reads = c.from_vec.result } ∷ renewed c.apply-value.result (drop at hs))) is_h
          ∙ ap₂ (λ y v. take (at - 1) hs ++ with_reads (take split h.reads) h ∷ (y ∷ renewed v (drop at hs))) held value);
      gives_are = c.in_ok-tell_from.ensures ∙ (ap₂ (λ y z. y ++ told c.args.var c.apply-value.result (drop at z))
          (c.in_ok-tell_behind.ensures ∙ ap₂ (λ y z. y ++ changed_of c.args.var (λ _. c.apply-value.result) (drop split z)) c.new-gives.ensures.items c.as_slice-3.ensures) c.as_slice-4.ensures.value
          ∙ ap (λ v. changed_of c.args.var (λ _. v) (drop split h.reads) ++ told c.args.var v (drop at hs)) value);
    }
