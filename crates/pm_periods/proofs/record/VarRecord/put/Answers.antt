use Rattle.std.proofs.Common.{◌≡◌, ◌<◌, ◌≤◌, ◌++◌, [], cond, length, arith, refl, ap, sym, ◌∙◌, subst}
use Rattle.std.specs.BTreeMap.{get}
use Rattle.pm_periods.specs.Inner.{parts_by, parts_of}
use Rattle.pm_periods.specs.Known.{AreKnown, num_cmp, stamp_of}
use Rattle.pm_periods.specs.Laid.{puts_of, withdrawal_key, withdrawn_of}
use Rattle.pm_periods.specs.Places.{number_place}
use Rattle.pm_periods.specs.Records.{IsSettled, Record, after_put, changed_hits, gives_of_put, refreshed, with_parts}
use Rattle.pm_periods.specs.Records.{with_put}
use Rattle.pm_periods.specs.Rows.{IsInOrder, has_num, put_key}
use Rattle.pm_periods.proofs.Cuts.{cut_unknown, cuts-order, held_whole}
use Rattle.pm_periods.proofs.Known.{known-alike, known-put}
use Rattle.pm_periods.proofs.Receipts.{after_put-settled}
use Rattle.pm_periods.proofs.Searches.{cut-look, put-look}
use Rattle.pm_periods.proofs.Sorting.{has_num-sorted}
use Rattle.pm_periods.proofs.Wholes.{begin_whole}
use Rattle.pm_periods.proofs.record.VarRecord.put.Goals as goal

pub returns-then-knows-clause-ok : goal.returns-then-knows-clause-ok
returns-then-knows-clause-ok c =
    let i = c.self.inside in
    let hs = i.periods.items in
    let ws = i.withdrawals.items in
    let p = c.args.row in
    let told : has_num put_key p.num (puts_of hs ++ withdrawn_of ws) ≡ c.knows.result =
    put-look hs ws _ _ _ c.self.invariant.known p.num ∙ sym c.knows.ensures in
    let known = has_num-sorted put_key put_key p.num (puts_of hs ++ withdrawn_of ws) ∙ (told ∙ c.if-knows.true) in
    sym c.self.view_is ∙ (ap (λ b. record {
      var = i.var;
      parts =
          cond b (parts_of i) (refreshed (with_put p (parts_of i)));
    }) (sym known)
    ∙ ap (λ (z : Record). with_parts z (after_put p z.parts)) c.self.view_is)

pub returns-then-knows-clause-gives : goal.returns-then-knows-clause-gives
returns-then-knows-clause-gives c =
    let i = c.self.inside in
    let hs = i.periods.items in
    let ws = i.withdrawals.items in
    let p = c.args.row in
    let told : has_num put_key p.num (puts_of hs ++ withdrawn_of ws) ≡ c.knows.result =
    put-look hs ws _ _ _ c.self.invariant.known p.num ∙ sym c.knows.ensures in
    let known = has_num-sorted put_key put_key p.num (puts_of hs ++ withdrawn_of ws) ∙ (told ∙ c.if-knows.true) in
    c.new.ensures ∙ (ap (λ b. cond b [] (changed_hits i.var (with_put p (parts_of i)))) (sym known)
    ∙ ap (λ (z : Record). gives_of_put z.var p z.parts) c.self.view_is)

pub invariant_of-self-then-named-len : goal.invariant_of-self-then-named-len
invariant_of-self-then-named-len c =
    let i = c.self.inside in
    let hs = i.periods.items in
    let ws = i.withdrawals.items in
    let p = c.args.row in
    let told : has_num put_key p.num (puts_of hs ++ withdrawn_of ws) ≡ c.knows.result =
    put-look hs ws _ _ _ c.self.invariant.known p.num ∙ sym c.knows.ensures in
    let at : c.named_place-named.result ≡ number_place withdrawal_key p.num ws =
    c.named_place-named.ensures ∙ ap (number_place withdrawal_key p.num) c.as_slice.ensures.value in
    let low : c.named_place-named.result < length ws =
    omega (arith, c.if-named-len.true, c.len.ensures, c.as_slice.ensures.len, ap length c.as_slice.ensures.value) in
    let whole = held_whole i.var hs ws c.self.invariant.settled c.self.invariant.sound p (told
    ∙ c.if-knows.false) c.named_place-named.result at low c.hold_put.new.withdrawals.items c.hold_put.ensures in
    let new = has_num-sorted put_key put_key p.num (puts_of hs ++ withdrawn_of ws) ∙ (told ∙ c.if-knows.false) in
    record {
      settled = subst IsSettled (sym whole.0) (after_put-settled p (parts_by hs ws) c.self.invariant.settled);
      sound = whole.2;
      known = subst (λ z. AreKnown z (get num_cmp c.learn.new.known) (get num_cmp i.cut_stamps)
          (get num_cmp i.read_stamps)) (sym whole.0)
          (known-put p (parts_by hs ws) (get num_cmp i.put_stamps) (get num_cmp i.cut_stamps)
          (get num_cmp i.read_stamps)
          (get num_cmp c.learn.new.known) c.self.invariant.known new c.in_ok-learn.ensures.ok);
    }

pub named_place-named-requires-clause-order : goal.named_place-named-requires-clause-order
named_place-named-requires-clause-order c =
    subst (IsInOrder withdrawal_key) (sym c.as_slice.ensures.value)
    (cuts-order c.self.inside.withdrawals.items c.self.invariant.settled.cuts)

pub named_place-named-requires-clause-known : goal.named_place-named-requires-clause-known
named_place-named-requires-clause-known c =
    cut-look c.self.inside.withdrawals.items
    (get num_cmp c.self.inside.cut_stamps) c.self.invariant.known.cuts c.args.row.num
    ∙ ap (stamp_of withdrawal_key c.args.row.num) (sym c.as_slice.ensures.value)

pub invariant_of-self : goal.invariant_of-self
invariant_of-self c =
    let i = c.self.inside in
    record {
      settled = c.self.invariant.settled;
      sound = c.self.invariant.sound;
      known = known-alike (parts_of i) (get num_cmp i.put_stamps) (get num_cmp i.cut_stamps)
          (get num_cmp i.read_stamps) (get num_cmp c.learn.new.known) (get num_cmp i.cut_stamps)
          (get num_cmp i.read_stamps)
          c.self.invariant.known c.in_err-learn.ensures.err (λ n. refl) (λ n. refl);
    }

pub returns-then-named-len-clause-ok : goal.returns-then-named-len-clause-ok
returns-then-named-len-clause-ok c =
    let i = c.self.inside in
    let hs = i.periods.items in
    let ws = i.withdrawals.items in
    let p = c.args.row in
    let told : has_num put_key p.num (puts_of hs ++ withdrawn_of ws) ≡ c.knows.result =
    put-look hs ws _ _ _ c.self.invariant.known p.num ∙ sym c.knows.ensures in
    let at : c.named_place-named.result ≡ number_place withdrawal_key p.num ws =
    c.named_place-named.ensures ∙ ap (number_place withdrawal_key p.num) c.as_slice.ensures.value in
    let low : c.named_place-named.result < length ws =
    omega (arith, c.if-named-len.true, c.len.ensures, c.as_slice.ensures.len, ap length c.as_slice.ensures.value) in
    let whole = held_whole i.var hs ws c.self.invariant.settled c.self.invariant.sound p (told
    ∙ c.if-knows.false) c.named_place-named.result at low c.hold_put.new.withdrawals.items c.hold_put.ensures in
    ap (λ z. record { var = i.var; parts = z }) whole.0
    ∙ ap (λ (z : Record). with_parts z (after_put p z.parts)) c.self.view_is

pub returns-then-named-len-clause-gives : goal.returns-then-named-len-clause-gives
returns-then-named-len-clause-gives c =
    let i = c.self.inside in
    let hs = i.periods.items in
    let ws = i.withdrawals.items in
    let p = c.args.row in
    let told : has_num put_key p.num (puts_of hs ++ withdrawn_of ws) ≡ c.knows.result =
    put-look hs ws _ _ _ c.self.invariant.known p.num ∙ sym c.knows.ensures in
    let at : c.named_place-named.result ≡ number_place withdrawal_key p.num ws =
    c.named_place-named.ensures ∙ ap (number_place withdrawal_key p.num) c.as_slice.ensures.value in
    let low : c.named_place-named.result < length ws =
    omega (arith, c.if-named-len.true, c.len.ensures, c.as_slice.ensures.len, ap length c.as_slice.ensures.value) in
    let whole = held_whole i.var hs ws c.self.invariant.settled c.self.invariant.sound p (told
    ∙ c.if-knows.false) c.named_place-named.result at low c.hold_put.new.withdrawals.items c.hold_put.ensures in
    c.new-then-named-len.ensures ∙ (whole.1 ∙ ap (λ (z : Record). gives_of_put z.var p z.parts) c.self.view_is)

pub invariant_of-self-2 : goal.invariant_of-self-2
invariant_of-self-2 c =
    let i = c.self.inside in
    let hs = i.periods.items in
    let ws = i.withdrawals.items in
    let p = c.args.row in
    let told : has_num put_key p.num (puts_of hs ++ withdrawn_of ws) ≡ c.knows.result =
    put-look hs ws _ _ _ c.self.invariant.known p.num ∙ sym c.knows.ensures in
    let at : c.named_place-named.result ≡ number_place withdrawal_key p.num ws =
    c.named_place-named.ensures ∙ ap (number_place withdrawal_key p.num) c.as_slice.ensures.value in
    let past : length ws ≤ number_place withdrawal_key p.num ws =
    omega (arith, c.if-named-len.false, c.len.ensures, c.as_slice.ensures.len, ap length c.as_slice.ensures.value, at)
    in
    let whole = begin_whole i.var hs ws c.self.invariant.sound p (told ∙ c.if-knows.false)
    (cut_unknown p.num ws past) c.begin_known.new.periods.items c.in_ok-gives.gives.items c.in_ok-gives.ensures.ok in
    let new = has_num-sorted put_key put_key p.num (puts_of hs ++ withdrawn_of ws) ∙ (told ∙ c.if-knows.false) in
    record {
      settled = subst IsSettled (sym whole.0) (after_put-settled p (parts_by hs ws) c.self.invariant.settled);
      sound = whole.2;
      known = subst (λ z. AreKnown z (get num_cmp c.begin_known.new.puts) (get num_cmp i.cut_stamps)
          (get num_cmp i.read_stamps)) (sym whole.0)
          (known-put p (parts_by hs ws) (get num_cmp i.put_stamps) (get num_cmp i.cut_stamps)
          (get num_cmp i.read_stamps)
          (get num_cmp c.begin_known.new.puts) c.self.invariant.known new c.in_ok-gives.ensures.known);
    }

pub returns-clause-ok : goal.returns-clause-ok
returns-clause-ok c =
    let i = c.self.inside in
    let hs = i.periods.items in
    let ws = i.withdrawals.items in
    let p = c.args.row in
    let told : has_num put_key p.num (puts_of hs ++ withdrawn_of ws) ≡ c.knows.result =
    put-look hs ws _ _ _ c.self.invariant.known p.num ∙ sym c.knows.ensures in
    let at : c.named_place-named.result ≡ number_place withdrawal_key p.num ws =
    c.named_place-named.ensures ∙ ap (number_place withdrawal_key p.num) c.as_slice.ensures.value in
    let past : length ws ≤ number_place withdrawal_key p.num ws =
    omega (arith, c.if-named-len.false, c.len.ensures, c.as_slice.ensures.len, ap length c.as_slice.ensures.value, at)
    in
    let whole = begin_whole i.var hs ws c.self.invariant.sound p (told ∙ c.if-knows.false)
    (cut_unknown p.num ws past) c.begin_known.new.periods.items c.in_ok-gives.gives.items c.in_ok-gives.ensures.ok in
    ap (λ z. record { var = i.var; parts = z }) whole.0
    ∙ ap (λ (z : Record). with_parts z (after_put p z.parts)) c.self.view_is

pub returns-clause-gives : goal.returns-clause-gives
returns-clause-gives c =
    let i = c.self.inside in
    let hs = i.periods.items in
    let ws = i.withdrawals.items in
    let p = c.args.row in
    let told : has_num put_key p.num (puts_of hs ++ withdrawn_of ws) ≡ c.knows.result =
    put-look hs ws _ _ _ c.self.invariant.known p.num ∙ sym c.knows.ensures in
    let at : c.named_place-named.result ≡ number_place withdrawal_key p.num ws =
    c.named_place-named.ensures ∙ ap (number_place withdrawal_key p.num) c.as_slice.ensures.value in
    let past : length ws ≤ number_place withdrawal_key p.num ws =
    omega (arith, c.if-named-len.false, c.len.ensures, c.as_slice.ensures.len, ap length c.as_slice.ensures.value, at)
    in
    let whole = begin_whole i.var hs ws c.self.invariant.sound p (told ∙ c.if-knows.false)
    (cut_unknown p.num ws past) c.begin_known.new.periods.items c.in_ok-gives.gives.items c.in_ok-gives.ensures.ok in
    c.from_vec.ensures ∙ (whole.1 ∙ ap (λ (z : Record). gives_of_put z.var p z.parts) c.self.view_is)
