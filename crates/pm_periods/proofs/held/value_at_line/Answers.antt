use Rattle.std.proofs.Common.{◌-◌, drop, take, arith, ap, sym, ◌∙◌, subst}
use Rattle.std.proofs.lemmas.List.{take-append-drop}
use Rattle.pm_periods.specs.Laid.{AreLaid, base_of, puts_of, value_under}
use Rattle.pm_periods.proofs.Laid.{end_take, end_value, reached, value_reached}
use Rattle.pm_periods.proofs.held.value_at_line.Goals as goal

pub returns : goal.returns
returns c =
    let hs = c.args.periods.now in
    let n = c.reach.result in
    let whole = take-append-drop n hs in
    let value = value_reached c.args.line (take n hs) (drop n hs) (base_of hs) (subst (AreLaid (base_of hs)) (sym whole) c.requires.laid) c.reach.ensures.before c.reach.ensures.after in
    let at = reached c.args.line hs n c.requires.begins c.reach.ensures.after in
    sym (end_take (base_of hs) hs (n - 1) _ (omega (arith, at))) ∙ (ap (λ z. end_value (base_of hs) (take z hs)) at
    ∙ (sym value ∙ ap (λ z. value_under c.args.line (puts_of z) (base_of hs)) whole))
