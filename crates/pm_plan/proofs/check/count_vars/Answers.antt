use Rattle.std.proofs.Common.{◌≡◌, ◌+◌, ◌≤◌, ap, arith, length, get_or, take}
use Rattle.std.proofs.lemmas.List.Folds.{length-flat_map-take}
use Rattle.pm_plan.specs.Plans.{all_vars}
use Rattle.pm_plan.proofs.check.count_vars.Goals as goal

pub overflow_add-count : goal.overflow_add-count
overflow_add-count c =
    let xs = c.args.classes.now in
    let i = c.loop-class.class-index in
    let x = c.class-item.result in
    let most : length (all_vars (take i xs)) + length (get_or xs i x).vars ≤ length (all_vars xs) = length-flat_map-take (λ p. p.vars) xs i x (omega arith) in
    let same : length x.vars ≡ length (get_or xs i x).vars = ap (λ p. length p.vars) c.class-item.is in
    omega (arith, most, same, c.loop-class.invariant, c.len-count.ensures, c.requires)
