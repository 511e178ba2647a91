use Rattle.std.proofs.Common.{◌≡◌, ◌+◌, ◌∷◌, drop, ap, sym, ◌∙◌, subst}
use Rattle.std.specs.Option.{option_to_list}
use Rattle.std.proofs.lemmas.List.{drop_more}
use Rattle.pm_periods.specs.Laid.{puts_of}
use Rattle.pm_periods.specs.Rows.{IsInOrder, add_rows, put_key}
use Rattle.pm_periods.proofs.Ordered.{add_rows-in_order}
use Rattle.pm_periods.proofs.Splits.{add_rows-append}
use Rattle.pm_periods.proofs.parts.add_live.Goals as goal

pub loop-h-preserved : goal.loop-h-preserved
loop-h-preserved c =
    let hs = c.args.periods.now in
    let i = c.loop-h.h-index in
    let h = c.h-item.result in
    let tail = drop (i + 1) hs in
    let items = c.loop-h.puts.items in
    let rest : drop i hs ≡ h ∷ tail = drop_more hs i h c.loop-h-test.true ∙ ap (λ z. z ∷ tail) (sym c.h-item.is) in
    let added = c.in_ok-add_if.ensures.ok in
    record {
      order = subst (IsInOrder put_key) (sym added) (add_rows-in_order put_key items (option_to_list h.put) c.loop-h.invariant.order);
      so_far = c.loop-h.invariant.so_far ∙ (ap (λ z. add_rows put_key items (puts_of z)) rest ∙ (add_rows-append put_key items (option_to_list h.put) (puts_of tail) ∙ ap (λ z. add_rows put_key z (puts_of tail)) (sym added)));
    }
