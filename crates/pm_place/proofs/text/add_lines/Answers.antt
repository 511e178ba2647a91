use Rattle.std.proofs.Common.{◌≤◌, ◌++◌, ◌∙◌, ap, sym, arith, append-nil, length, drop}
use Rattle.std.proofs.lemmas.Bool.Decides.{nat_tests}
use Rattle.pm_place.proofs.Lines.{lines-past}
use Rattle.pm_place.proofs.text.add_lines.Goals as goal

pub returns-in_default : goal.returns-in_default
returns-in_default c =
    let lookup = c.in_default.ensures.lookup in
    let past : length c.args.costs.now ≤ c.loop-var.var = grind (arith, nat_tests, lookup) in
    sym (append-nil c.loop-var.out.items)
    ∙ ap (λ t. c.loop-var.out.items ++ t) (sym (lines-past c.args.plan.now c.loop-var.var (drop c.loop-var.var c.args.at.now) c.args.costs.now c.loop-var.var past))
    ∙ c.loop-var.invariant
