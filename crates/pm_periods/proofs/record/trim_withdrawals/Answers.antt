use Rattle.std.proofs.Common.{filter, length, map, rules, ap, ◌∙◌}
use Rattle.std.proofs.lemmas.Fn.{filter_same}
use Rattle.std.proofs.lemmas.List.{length-map, with_items_is}
use Rattle.pm_periods.specs.Laid.{trimmed_withdrawal, withdrawal_stays}
use Rattle.pm_periods.proofs.record.trim_withdrawals.Goals as goal

pub returns : goal.returns
returns c =
    let f = trimmed_withdrawal c.args.line in
    let many = ap length c.trim_puts.ensures ∙ (length-map c.as_mut_slice.result.now f ∙ c.as_mut_slice.ensures.len) in
    filter_same _ (withdrawal_stays c.args.line) _ (λ x b f' k. search rules) _ _ c.retain.ensures.filtered
    ∙ ap (filter (withdrawal_stays c.args.line)) (with_items_is c.args.withdrawals.now c.trim_puts.new.withdrawals many ∙ (c.trim_puts.ensures ∙ ap (map f) c.as_mut_slice.ensures.value))
