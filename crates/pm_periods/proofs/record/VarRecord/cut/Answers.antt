use Rattle.std.proofs.Common.{◌≡◌, [], false, true, cond, length, get_or, take, arith, ap, sym, ◌∙◌, subst}
use Rattle.std.specs.List.{AllByRecursion}
use Rattle.std.specs.BTreeMap.{get}
use Rattle.pm_periods.specs.Inner.{AreSound, parts_by, parts_of}
use Rattle.pm_periods.specs.Known.{AreKnown, num_cmp, stamp_of}
use Rattle.pm_periods.specs.Laid.{AreOrdered, is_of, puts_of}
use Rattle.pm_periods.specs.Records.{IsSettled, Record, after_cut, changed_hits, cut_row, gives_of_cut, refreshed}
use Rattle.pm_periods.specs.Records.{with_cut, with_parts}
use Rattle.pm_periods.specs.Rows.{put_key}
use Rattle.pm_periods.specs.declared.held.Held.{Held}
use Rattle.pm_periods.proofs.Cuts.{cuts-order, early_whole, end_whole, not_first, put_unknown}
use Rattle.pm_periods.proofs.Known.{known-cut}
use Rattle.pm_periods.proofs.Receipts.{after_cut-settled}
use Rattle.pm_periods.proofs.Searches.{cut-knows, live-look}
use Rattle.pm_periods.proofs.record.VarRecord.cut.Goals as goal

pub returns-then-knows-clause-ok : goal.returns-then-knows-clause-ok
returns-then-knows-clause-ok c =
    let i = c.self.inside in
    let hs = i.periods.items in
    let ws = i.withdrawals.items in
    let row = cut_row c.args.num c.args.stamp in
    let known = cut-knows ws (get num_cmp i.cut_stamps) c.self.invariant.known.cuts row.num
    ∙ (sym c.knows.ensures ∙ c.if-knows.true) in
    sym c.self.view_is ∙ (ap (λ b. record {
      var = i.var;
      parts =
          cond b (parts_of i) (refreshed (with_cut row (parts_of i)));
    }) (sym known)
    ∙ ap (λ (z : Record). with_parts z (after_cut row z.parts)) c.self.view_is)

pub returns-then-knows-clause-gives : goal.returns-then-knows-clause-gives
returns-then-knows-clause-gives c =
    let i = c.self.inside in
    let hs = i.periods.items in
    let ws = i.withdrawals.items in
    let row = cut_row c.args.num c.args.stamp in
    let known = cut-knows ws (get num_cmp i.cut_stamps) c.self.invariant.known.cuts row.num
    ∙ (sym c.knows.ensures ∙ c.if-knows.true) in
    c.new.ensures ∙ (ap (λ b. cond b [] (changed_hits i.var (with_cut row (parts_of i)))) (sym known)
    ∙ ap (λ (z : Record). gives_of_cut z.var row z.parts) c.self.view_is)

pub put_place-at-requires-clause-order : goal.put_place-at-requires-clause-order
put_place-at-requires-clause-order c = subst AreOrdered (sym c.as_slice.ensures.value) c.self.invariant.sound.order

pub put_place-at-requires-clause-known : goal.put_place-at-requires-clause-known
put_place-at-requires-clause-known c =
    let i = c.self.inside in
    let hs = i.periods.items in
    let ws = i.withdrawals.items in
    let row = cut_row c.args.num c.args.stamp in
    let new = cut-knows ws (get num_cmp i.cut_stamps) c.self.invariant.known.cuts row.num
    ∙ (sym c.knows.ensures ∙ c.if-knows.false) in
    live-look hs ws (get num_cmp i.put_stamps) (get num_cmp i.cut_stamps)
    (get num_cmp i.read_stamps) c.self.invariant.sound c.self.invariant.known row.num new
    ∙ ap (λ z. stamp_of put_key row.num (puts_of z)) (sym c.as_slice.ensures.value)

pub add_early-requires-clause-order : goal.add_early-requires-clause-order
add_early-requires-clause-order c = cuts-order c.self.inside.withdrawals.items c.self.invariant.settled.cuts

pub invariant_of-self-then-at-len : goal.invariant_of-self-then-at-len
invariant_of-self-then-at-len c =
    let i = c.self.inside in
    let hs = i.periods.items in
    let ws = i.withdrawals.items in
    let row = cut_row c.args.num c.args.stamp in
    let new = cut-knows ws (get num_cmp i.cut_stamps) c.self.invariant.known.cuts row.num
    ∙ (sym c.knows.ensures ∙ c.if-knows.false) in
    let others = subst (λ z. AllByRecursion (λ (h : Held). is_of row.num h.put ≡ false)
    (take c.put_place-at.result z)) c.as_slice.ensures.value c.put_place-at.ensures.others in
    let sizes = ap length c.as_slice.ensures.value in
    let unput = put_unknown row.num hs c.put_place-at.result (omega (arith, c.put_place-at.ensures.within, sizes))
    (omega (arith, c.if-at-len.true, c.len.ensures, c.as_slice.ensures.len, sizes)) others in
    let whole = early_whole i.var hs ws c.self.invariant.settled c.self.invariant.sound row new unput in
    let added = c.in_ok-add_early.ensures.ok in
    record {
      settled = subst (λ z. IsSettled (parts_by hs z)) (sym added)
          (subst IsSettled (sym whole.0) (after_cut-settled row (parts_by hs ws) c.self.invariant.settled));
      sound = subst (λ z. AreSound hs z) (sym added) whole.2;
      known = subst (λ z. AreKnown z (get num_cmp i.put_stamps) (get num_cmp c.add_early.new.cuts)
          (get num_cmp i.read_stamps)) (sym (ap (parts_by hs) added ∙ whole.0))
          (known-cut row (parts_by hs ws) (get num_cmp i.put_stamps) (get num_cmp i.cut_stamps)
          (get num_cmp i.read_stamps)
          (get num_cmp c.add_early.new.cuts) c.self.invariant.known new c.in_ok-add_early.ensures.known);
    }

pub returns-then-at-len-clause-ok : goal.returns-then-at-len-clause-ok
returns-then-at-len-clause-ok c =
    let i = c.self.inside in
    let hs = i.periods.items in
    let ws = i.withdrawals.items in
    let row = cut_row c.args.num c.args.stamp in
    let new = cut-knows ws (get num_cmp i.cut_stamps) c.self.invariant.known.cuts row.num
    ∙ (sym c.knows.ensures ∙ c.if-knows.false) in
    let others = subst (λ z. AllByRecursion (λ (h : Held). is_of row.num h.put ≡ false)
    (take c.put_place-at.result z)) c.as_slice.ensures.value c.put_place-at.ensures.others in
    let sizes = ap length c.as_slice.ensures.value in
    let unput = put_unknown row.num hs c.put_place-at.result (omega (arith, c.put_place-at.ensures.within, sizes))
    (omega (arith, c.if-at-len.true, c.len.ensures, c.as_slice.ensures.len, sizes)) others in
    let whole = early_whole i.var hs ws c.self.invariant.settled c.self.invariant.sound row new unput in
    let added = c.in_ok-add_early.ensures.ok in
    ap (λ z. record { var = i.var; parts = z }) (ap (parts_by hs) added ∙ whole.0)
    ∙ ap (λ (z : Record). with_parts z (after_cut row z.parts)) c.self.view_is

pub returns-then-at-len-clause-gives : goal.returns-then-at-len-clause-gives
returns-then-at-len-clause-gives c =
    let i = c.self.inside in
    let hs = i.periods.items in
    let ws = i.withdrawals.items in
    let row = cut_row c.args.num c.args.stamp in
    let new = cut-knows ws (get num_cmp i.cut_stamps) c.self.invariant.known.cuts row.num
    ∙ (sym c.knows.ensures ∙ c.if-knows.false) in
    let others = subst (λ z. AllByRecursion (λ (h : Held). is_of row.num h.put ≡ false)
    (take c.put_place-at.result z)) c.as_slice.ensures.value c.put_place-at.ensures.others in
    let sizes = ap length c.as_slice.ensures.value in
    let unput = put_unknown row.num hs c.put_place-at.result (omega (arith, c.put_place-at.ensures.within, sizes))
    (omega (arith, c.if-at-len.true, c.len.ensures, c.as_slice.ensures.len, sizes)) others in
    let whole = early_whole i.var hs ws c.self.invariant.settled c.self.invariant.sound row new unput in
    let added = c.in_ok-add_early.ensures.ok in
    c.new-then-at-len.ensures ∙ (whole.1 ∙ ap (λ (z : Record). gives_of_cut z.var row z.parts) c.self.view_is)

pub end_known-requires-clause-within : goal.end_known-requires-clause-within
end_known-requires-clause-within c =
    let i = c.self.inside in
    let hs = i.periods.items in
    let ws = i.withdrawals.items in
    let row = cut_row c.args.num c.args.stamp in
    let new = cut-knows ws (get num_cmp i.cut_stamps) c.self.invariant.known.cuts row.num
    ∙ (sym c.knows.ensures ∙ c.if-knows.false) in
    let sizes = ap length c.as_slice.ensures.value in
    let found : (d : Held) → is_of row.num (get_or hs c.put_place-at.result d).put ≡ true =
    λ d. ap (λ z. is_of row.num (get_or z c.put_place-at.result d).put) (sym c.as_slice.ensures.value)
    ∙ c.put_place-at.ensures.found d (omega (arith, c.if-at-len.false, c.len.ensures, c.as_slice.ensures.len)) in (
      not_first row.num hs c.put_place-at.result c.self.invariant.sound.begins found,
      omega
          (arith, c.if-at-len.false, c.len.ensures, c.as_slice.ensures.len, sizes),
    )

pub end_known-requires-clause-cuts : goal.end_known-requires-clause-cuts
end_known-requires-clause-cuts c = cuts-order c.self.inside.withdrawals.items c.self.invariant.settled.cuts

pub invariant_of-self-2 : goal.invariant_of-self-2
invariant_of-self-2 c =
    let i = c.self.inside in
    let hs = i.periods.items in
    let ws = i.withdrawals.items in
    let row = cut_row c.args.num c.args.stamp in
    let new = cut-knows ws (get num_cmp i.cut_stamps) c.self.invariant.known.cuts row.num
    ∙ (sym c.knows.ensures ∙ c.if-knows.false) in
    let ok = c.in_ok-gives.ensures.ok in
    let whole =
    end_whole i.var hs ws c.self.invariant.sound row new ok.0 ok.1 c.end_known.new.periods.items
    c.in_ok-gives.gives.items ok.2 c.end_known.new.withdrawals.items ok.3 in
    record {
      settled = subst IsSettled (sym whole.0) (after_cut-settled row (parts_by hs ws) c.self.invariant.settled);
      sound = whole.2;
      known = subst (λ z. AreKnown z (get num_cmp i.put_stamps) (get num_cmp c.end_known.new.cuts)
          (get num_cmp i.read_stamps)) (sym whole.0)
          (known-cut row (parts_by hs ws) (get num_cmp i.put_stamps) (get num_cmp i.cut_stamps)
          (get num_cmp i.read_stamps)
          (get num_cmp c.end_known.new.cuts) c.self.invariant.known new c.in_ok-gives.ensures.known);
    }

pub returns-clause-ok : goal.returns-clause-ok
returns-clause-ok c =
    let i = c.self.inside in
    let hs = i.periods.items in
    let ws = i.withdrawals.items in
    let row = cut_row c.args.num c.args.stamp in
    let new = cut-knows ws (get num_cmp i.cut_stamps) c.self.invariant.known.cuts row.num
    ∙ (sym c.knows.ensures ∙ c.if-knows.false) in
    let ok = c.in_ok-gives.ensures.ok in
    let whole =
    end_whole i.var hs ws c.self.invariant.sound row new ok.0 ok.1 c.end_known.new.periods.items
    c.in_ok-gives.gives.items ok.2 c.end_known.new.withdrawals.items ok.3 in
    ap (λ z. record { var = i.var; parts = z }) whole.0
    ∙ ap (λ (z : Record). with_parts z (after_cut row z.parts)) c.self.view_is

pub returns-clause-gives : goal.returns-clause-gives
returns-clause-gives c =
    let i = c.self.inside in
    let hs = i.periods.items in
    let ws = i.withdrawals.items in
    let row = cut_row c.args.num c.args.stamp in
    let new = cut-knows ws (get num_cmp i.cut_stamps) c.self.invariant.known.cuts row.num
    ∙ (sym c.knows.ensures ∙ c.if-knows.false) in
    let ok = c.in_ok-gives.ensures.ok in
    let whole =
    end_whole i.var hs ws c.self.invariant.sound row new ok.0 ok.1 c.end_known.new.periods.items
    c.in_ok-gives.gives.items ok.2 c.end_known.new.withdrawals.items ok.3 in
    c.from_vec.ensures ∙ (whole.1 ∙ ap (λ (z : Record). gives_of_cut z.var row z.parts) c.self.view_is)
