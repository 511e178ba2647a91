use Rattle.std.proofs.Common.{◌≡◌, ◌+◌, ◌∷◌, false, drop, get_or, ap, sym, ◌∙◌, subst}
use Rattle.std.specs.List.{AllByRecursion}
use Rattle.std.proofs.lemmas.List.{drop_more}
use Rattle.pm_base.specs.declared.rows.ReadRow.{ReadRow}
use Rattle.pm_periods.specs.Received.{reads_entered}
use Rattle.pm_periods.specs.Records.{Record, record_value, with_hit, with_parts, with_read}
use Rattle.pm_periods.specs.Rows.{AreDistinct, has_num, read_key}
use Rattle.pm_periods.proofs.Receiving.{fresh_on}
use Rattle.pm_periods.proofs.parts.enter_reads.Goals as goal

pub loop-q-preserved : goal.loop-q-preserved
loop-q-preserved c =
    let qs = c.args.reads.now in
    let i = c.loop-q.q-index in
    let tail = drop (i + 1) qs in
    let made : Record = c.loop-q.made in
    let r = made.parts in
    let q : ReadRow = get_or qs i _ in
    let rest : drop i qs ≡ q ∷ tail = drop_more qs i _ c.loop-q-test.true in
    let inv = c.loop-q.invariant in
    let row_is : c.with_value-row.result ≡ with_hit (record_value r) q = c.with_value-row.ensures ∙ ap (λ v. with_hit (λ _. v) q) c.value_at.ensures in
    let is = c.in_ok-enter.ensures.ok ∙ ap (λ z. with_parts made (with_read z r)) row_is in
    let once = subst (AreDistinct read_key) rest inv.once in
    let new = subst (AllByRecursion (λ (p : ReadRow). has_num read_key p.num r.reads ≡ false)) rest inv.new in
    record {
      new = subst (λ (z : Record). AllByRecursion (λ (p : ReadRow). has_num read_key p.num z.parts.reads ≡ false) tail) (sym is) (fresh_on read_key (with_hit (record_value r) q) r.reads tail once.0 new.1);
      once = once.1;
      so_far = inv.so_far ∙ (ap (λ z. with_parts made (reads_entered z r)) rest ∙ ap (λ (z : Record). with_parts z (reads_entered tail z.parts)) (sym is));
    }
