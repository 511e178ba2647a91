use Rattle.std.proofs.Common.{[], ap, sym, ◌∙◌}
use Rattle.pm_periods.specs.Laid.{puts_of, withdrawn_of}
use Rattle.pm_periods.specs.Rows.{add_rows, put_key}
use Rattle.pm_periods.proofs.Splits.{add_rows-append}
use Rattle.pm_periods.proofs.parts.puts_of.Goals as goal

pub returns : goal.returns
returns c =
    let ps = puts_of c.args.periods.now in
    let ws = withdrawn_of c.args.withdrawals.now in
    c.in_ok-add_withdrawn.ensures.ok ∙ (ap (λ z. add_rows put_key z ws) (c.in_ok-add_live.ensures.ok ∙ ap (λ z. add_rows put_key z ps) c.new-puts.ensures.items) ∙ sym (add_rows-append put_key [] ps ws))
