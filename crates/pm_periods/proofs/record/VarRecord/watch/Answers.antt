use Rattle.std.proofs.Common.{cond, [], Some, ◌≡◌, refl, ap, sym, ◌∙◌, subst}
use Rattle.std.specs.BTreeMap.{get}
use Rattle.std.specs.Option.{is_some}
use Rattle.pm_base.specs.Stamps.{num_eq}
use Rattle.pm_base.specs.declared.rows.ReadRow.{ReadRow}
use Rattle.pm_base.specs.declared.stamp.Num.{Num}
use Rattle.pm_base.specs.declared.stamp.Line.TheVariants as line
use Rattle.pm_periods.specs.Inner.{parts_of}
use Rattle.pm_periods.specs.Known.{AreKnown, num_cmp}
use Rattle.pm_periods.specs.Laid.{base_of, puts_of, reads_of, value_under}
use Rattle.pm_periods.specs.Records.{IsSettled, Record, after_watch, changed_hits, first_read, fresh_read}
use Rattle.pm_periods.specs.Records.{gives_of_watch, hit_in, record_value, refreshed, with_parts, with_read}
use Rattle.pm_periods.specs.Rows.{add_row, read_key}
use Rattle.pm_periods.specs.declared.rows.RowKey.{RowKey}
use Rattle.pm_periods.proofs.Entering.{entered_whole, fresh_hit, watch_gives, watch_parts}
use Rattle.pm_periods.proofs.Hits.{fresh_read-key}
use Rattle.pm_periods.proofs.Known.{known-watch, stamp-has}
use Rattle.pm_periods.proofs.Receipts.{after_watch-settled}
use Rattle.pm_periods.proofs.Wholes.{sound_sees}
use Rattle.pm_periods.proofs.record.VarRecord.watch.Goals as goal

pub returns-then-knows-clause-ok : goal.returns-then-knows-clause-ok
returns-then-knows-clause-ok c =
    let i = c.self.inside in
    let q = first_read c.args.num c.args.stamp c.args.window in
    let known = sym (stamp-has read_key c.args.num (parts_of i).reads)
    ∙ (ap is_some (sym (c.self.invariant.known.reads c.args.num)) ∙ (sym c.knows.ensures ∙ c.if-knows.true)) in
    sym c.self.view_is ∙ (ap (λ b. record {
      var = i.var;
      parts =
          cond b (parts_of i) (refreshed (with_read q (parts_of i)));
    }) (sym known)
    ∙ ap (λ (z : Record). with_parts z (after_watch q z.parts)) c.self.view_is)

pub returns-then-knows-clause-gives : goal.returns-then-knows-clause-gives
returns-then-knows-clause-gives c =
    let i = c.self.inside in
    let q = first_read c.args.num c.args.stamp c.args.window in
    let known = sym (stamp-has read_key c.args.num (parts_of i).reads)
    ∙ (ap is_some (sym (c.self.invariant.known.reads c.args.num)) ∙ (sym c.knows.ensures ∙ c.if-knows.true)) in
    ap (λ b. cond b [] (changed_hits i.var (with_read q (parts_of i)))) (sym known)
    ∙ ap (λ (z : Record). gives_of_watch z.var q z.parts) c.self.view_is

pub invariant_of-self-2 : goal.invariant_of-self-2
invariant_of-self-2 c =
    let i = c.self.inside in
    let hs = i.periods.items in
    let ws = i.withdrawals.items in
    let q = first_read c.args.num c.args.stamp c.args.window in
    let new = sym (stamp-has read_key c.args.num (reads_of hs))
    ∙ (ap is_some (sym (c.self.invariant.known.reads c.args.num)) ∙ (sym c.knows.ensures ∙ c.if-knows.false)) in
    let value : c.value_at_line-value.result ≡ record_value (parts_of i) c.args.stamp =
    c.value_at_line-value.ensures ∙ (ap (λ z. value_under (line.At c.args.stamp) (puts_of z)
    (base_of z)) c.as_slice.ensures.value ∙ sym (sound_sees hs ws c.self.invariant.sound (line.At c.args.stamp))) in
    let fresh : c.refreshed-row.result ≡ fresh_read (λ _. c.value_at_line-value.result) q = c.refreshed-row.ensures in
    let hit : c.refreshed-row.result.hit ≡ hit_in
    (record_value (parts_of i) c.refreshed-row.result.stamp) c.refreshed-row.result.window =
    subst (λ (z : ReadRow). z.hit ≡ hit_in (record_value (parts_of i) z.stamp) z.window) (sym fresh)
    (fresh_hit (record_value (parts_of i)) c.value_at_line-value.result q value) in
    let whole =
    entered_whole hs ws c.self.invariant.sound c.refreshed-row.result hit c.add_known.new.periods.items
    c.in_ok-add_known.ensures.ok in
    let parts =
    whole.0 ∙ watch_parts i.var
    (parts_of i) c.self.invariant.settled c.args.num c.args.stamp c.args.window new c.value_at_line-value.result value
    c.refreshed-row.result fresh (add_row read_key c.refreshed-row.result (reads_of hs)) refl in
    record {
      settled = subst IsSettled (sym parts) (after_watch-settled q (parts_of i) c.self.invariant.settled);
      sound = whole.1;
      known = subst (λ z. AreKnown z (get num_cmp i.put_stamps) (get num_cmp i.cut_stamps)
          (get num_cmp c.add_known.new.reads)) (sym parts)
          (known-watch q (parts_of i) (get num_cmp i.put_stamps) (get num_cmp i.cut_stamps)
          (get num_cmp i.read_stamps) (get num_cmp c.add_known.new.reads) c.self.invariant.known new
          (subst (λ (k : RowKey). (n : Num) → get num_cmp c.add_known.new.reads n
          ≡ cond (num_eq n k.num) (Some k.stamp) (get num_cmp i.read_stamps n))
          (ap read_key fresh ∙ fresh_read-key (λ _. c.value_at_line-value.result) q) c.in_ok-add_known.ensures.known));
    }

pub returns-clause-ok : goal.returns-clause-ok
returns-clause-ok c =
    let i = c.self.inside in
    let hs = i.periods.items in
    let ws = i.withdrawals.items in
    let q = first_read c.args.num c.args.stamp c.args.window in
    let new = sym (stamp-has read_key c.args.num (reads_of hs))
    ∙ (ap is_some (sym (c.self.invariant.known.reads c.args.num)) ∙ (sym c.knows.ensures ∙ c.if-knows.false)) in
    let value : c.value_at_line-value.result ≡ record_value (parts_of i) c.args.stamp =
    c.value_at_line-value.ensures ∙ (ap (λ z. value_under (line.At c.args.stamp) (puts_of z)
    (base_of z)) c.as_slice.ensures.value ∙ sym (sound_sees hs ws c.self.invariant.sound (line.At c.args.stamp))) in
    let fresh : c.refreshed-row.result ≡ fresh_read (λ _. c.value_at_line-value.result) q = c.refreshed-row.ensures in
    let hit : c.refreshed-row.result.hit ≡ hit_in
    (record_value (parts_of i) c.refreshed-row.result.stamp) c.refreshed-row.result.window =
    subst (λ (z : ReadRow). z.hit ≡ hit_in (record_value (parts_of i) z.stamp) z.window) (sym fresh)
    (fresh_hit (record_value (parts_of i)) c.value_at_line-value.result q value) in
    let whole =
    entered_whole hs ws c.self.invariant.sound c.refreshed-row.result hit c.add_known.new.periods.items
    c.in_ok-add_known.ensures.ok in
    let parts =
    whole.0 ∙ watch_parts i.var
    (parts_of i) c.self.invariant.settled c.args.num c.args.stamp c.args.window new c.value_at_line-value.result value
    c.refreshed-row.result fresh (add_row read_key c.refreshed-row.result (reads_of hs)) refl in
    ap (λ z. record { var = i.var; parts = z }) parts
    ∙ ap (λ (z : Record). with_parts z (after_watch q z.parts)) c.self.view_is

pub returns-clause-gives : goal.returns-clause-gives
returns-clause-gives c =
    let i = c.self.inside in
    let hs = i.periods.items in
    let ws = i.withdrawals.items in
    let q = first_read c.args.num c.args.stamp c.args.window in
    let new = sym (stamp-has read_key c.args.num (reads_of hs))
    ∙ (ap is_some (sym (c.self.invariant.known.reads c.args.num)) ∙ (sym c.knows.ensures ∙ c.if-knows.false)) in
    let value : c.value_at_line-value.result ≡ record_value (parts_of i) c.args.stamp =
    c.value_at_line-value.ensures ∙ (ap (λ z. value_under (line.At c.args.stamp) (puts_of z)
    (base_of z)) c.as_slice.ensures.value ∙ sym (sound_sees hs ws c.self.invariant.sound (line.At c.args.stamp))) in
    let fresh : c.refreshed-row.result ≡ fresh_read (λ _. c.value_at_line-value.result) q = c.refreshed-row.ensures in
    watch_gives i.var
    (parts_of i) c.self.invariant.settled c.args.num c.args.stamp c.args.window new c.value_at_line-value.result value
    c.refreshed-row.result fresh c.first_give.result c.first_give.ensures
    ∙ ap (λ (z : Record). gives_of_watch z.var q z.parts) c.self.view_is
