use Rattle.std.proofs.Common.{◌≡◌, [], false, refl, ap, sym, ◌∙◌, subst}
use Rattle.std.specs.List.{AllByRecursion}
use Rattle.pm_base.specs.declared.rows.ReadRow.{ReadRow}
use Rattle.pm_periods.specs.Rows.{AreDistinct, cut_key, has_num, put_key, read_key, rows_in_order}
use Rattle.pm_periods.proofs.Numbers.{rows_in_order-distinct}
use Rattle.pm_periods.proofs.Receiving.{received_whole}
use Rattle.pm_periods.proofs.Wholes.{each_all}
use Rattle.pm_periods.proofs.record.VarRecord.from_parts.Goals as goal

pub enter_reads-requires-clause-new : goal.enter_reads-requires-clause-new
enter_reads-requires-clause-new c =
    subst (λ z. AllByRecursion (λ (q : ReadRow). has_num read_key q.num z ≡ false) c.as_slice-6.result.now) (sym c.in_ok-receive_puts.ensures.reads) (each_all (λ (q : ReadRow). has_num read_key q.num [] ≡ false) (λ q. refl) c.as_slice-6.result.now)

pub enter_reads-requires-clause-once : goal.enter_reads-requires-clause-once
enter_reads-requires-clause-once c = subst (AreDistinct read_key) (sym (c.as_slice-6.ensures.value ∙ c.in_ok-reads.ensures)) (rows_in_order-distinct read_key c.as_slice-3.result.now)

pub returns : goal.returns
returns c =
    let r = c.args.parts.now in
    received_whole c.args.var r _ _ _ _ _ _ _ c.in_ok-made.ensures
    c.in_ok-receive_cuts.ensures.ok (c.as_slice-4.ensures.value ∙ (c.in_ok-cuts.ensures ∙ ap (rows_in_order cut_key) c.as_slice.ensures))
    c.in_ok-receive_puts.ensures.ok (c.as_slice-5.ensures.value ∙ (c.in_ok-puts.ensures ∙ ap (rows_in_order put_key) c.as_slice-2.ensures))
    c.in_ok-enter_reads.ensures.ok (c.as_slice-6.ensures.value ∙ (c.in_ok-reads.ensures ∙ ap (rows_in_order read_key) c.as_slice-3.ensures))
