use Rattle.std.proofs.Common.{◌≡◌, ◌<◌, ◌∙◌, ap, arith, get_or, length, map, subst, sym}
use Rattle.std.proofs.lemmas.List.{get_or-map}
use Rattle.pm_plan.specs.declared.plan.VarRow.{VarRow}
use Rattle.pm_plan.proofs.Valid.{valid_var}
use Rattle.pm_core.proofs.firsts.first_ways.Goals as goal

pub first_way-requires-clause-at : goal.first_way-requires-clause-at
first_way-requires-clause-at c =
    let i = c.loop-row.row-index in
    let rows = c.args.plan.now.vars in
    let x = c.row-item.result in
    let e = ap length c.as_slice-row-items.ensures in
    let lt : i < length rows = omega (arith, e, c.loop-row-test.true) in
    let is : x ≡ get_or rows i x = c.row-item.is ∙ ap (λ z. get_or z i x) c.as_slice-row-items.ensures in
    let h : get_or (map (λ (r : VarRow). r.at) rows) i 0 ≡ x.at =
    get_or-map (λ (r : VarRow). r.at) rows i x 0 lt ∙ ap (λ (r : VarRow). r.at) (sym is) in
    subst (λ z. z < length c.args.plan.now.clps) h (valid_var c.args.plan.now c.requires.valid i lt)
