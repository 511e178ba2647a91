use Rattle.std.proofs.Common.{◌≡◌, ◌+◌, ◌∷◌, drop, get_or, ap, sym, ◌∙◌, subst}
use Rattle.std.specs.Option.{option_to_list}
use Rattle.std.proofs.lemmas.List.{drop_more}
use Rattle.pm_periods.specs.Laid.{withdrawn_of}
use Rattle.pm_periods.specs.Rows.{IsInOrder, add_rows, put_key}
use Rattle.pm_periods.specs.declared.record.Withdrawal.{Withdrawal}
use Rattle.pm_periods.proofs.Laid.{no_withdrawal}
use Rattle.pm_periods.proofs.Ordered.{add_rows-in_order}
use Rattle.pm_periods.proofs.Splits.{add_rows-append}
use Rattle.pm_periods.proofs.parts.add_withdrawn.Goals as goal

pub loop-w-preserved : goal.loop-w-preserved
loop-w-preserved c =
    let ws = c.args.withdrawals.now in
    let i = c.loop-w.w-index in
    let w : Withdrawal = get_or ws i no_withdrawal in
    let tail = drop (i + 1) ws in
    let items = c.loop-w.puts.items in
    let rest : drop i ws ≡ w ∷ tail = drop_more ws i no_withdrawal c.loop-w-test.true in
    let added = c.in_ok-add_if.ensures.ok in
    record {
      order = subst (IsInOrder put_key) (sym added) (add_rows-in_order put_key items (option_to_list w.put) c.loop-w.invariant.order);
      so_far = c.loop-w.invariant.so_far ∙ (ap (λ z. add_rows put_key items (withdrawn_of z)) rest ∙ (add_rows-append put_key items (option_to_list w.put) (withdrawn_of tail) ∙ ap (λ z. add_rows put_key z (withdrawn_of tail)) (sym added)));
    }
