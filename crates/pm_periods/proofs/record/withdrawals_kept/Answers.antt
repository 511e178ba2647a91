use Rattle.std.proofs.Common.{◌≡◌, ◌+◌, ◌∷◌, drop, get_or, length, arith, ap, ◌∙◌}
use Rattle.std.specs.Option.{option_to_list}
use Rattle.std.proofs.lemmas.List.{drop_more, length-append}
use Rattle.pm_periods.specs.Laid.{withdrawn_of}
use Rattle.pm_periods.specs.declared.record.Withdrawal.{Withdrawal}
use Rattle.pm_periods.proofs.Laid.{no_withdrawal}
use Rattle.pm_periods.proofs.record.withdrawals_kept.Goals as goal

pub loop-w-preserved : goal.loop-w-preserved
loop-w-preserved c =
    let ws = c.args.withdrawals.now in
    let i = c.loop-w.w-index in
    let w : Withdrawal = get_or ws i no_withdrawal in
    let tail = drop (i + 1) ws in
    let rest : drop i ws ≡ w ∷ tail = drop_more ws i no_withdrawal c.loop-w-test.true in
    let puts = ap (λ z. length (withdrawn_of z)) rest ∙ length-append (option_to_list w.put) (withdrawn_of tail) in
    let all = ap length rest in
    let inv = c.loop-w.invariant in
    let one = c.withdrawal_kept.ensures in
    let added = c.saturating_add-kept.ensures in
    let is = inv.1 in
    let sum = inv.2 in
    (inv.0 + (length (option_to_list w.put) + 1), grind (arith, is, one, added), omega (arith, sum, puts, all))
