use Rattle.std.proofs.Common.{rules, ℕ, ◌%◌, ◌^◌, List, ap, ◌∙◌}
use Rattle.pm_workers.specs.Epochs.{told_by}
use Rattle.pm_workers.proofs.Totals.{moved_total, added}
use Rattle.pm_workers.proofs.by_turns.run_counted.Goals as goal

pub returns-clause-made : goal.returns-clause-made
returns-clause-made g c =
    let story = g.S.Station.story in
    let plan = c.args.plan.now in
    let sum : List g.row.S.Denot → ℕ = λ xs. told_by story xs % 2 ^ 64 in
    let t = moved_total story g.S.Station.follows plan.quota plan.count c.args.stations.items
    c.in_ok-stations.stations.items (search rules) (search rules) c.in_ok-stations.ensures in
    (added _ _ plan.quota _ _ t.0 t.1 (search rules) (c.told_sum-before.ensures ∙ ap sum c.as_slice.ensures.value)
    (c.told_sum.ensures ∙ ap sum c.as_slice-2.ensures.value)).0

pub returns-clause-most : goal.returns-clause-most
returns-clause-most g c =
    let story = g.S.Station.story in
    let plan = c.args.plan.now in
    let sum : List g.row.S.Denot → ℕ = λ xs. told_by story xs % 2 ^ 64 in
    let t = moved_total story g.S.Station.follows plan.quota plan.count c.args.stations.items
    c.in_ok-stations.stations.items (search rules) (search rules) c.in_ok-stations.ensures in
    (added _ _ plan.quota _ _ t.0 t.1 (search rules) (c.told_sum-before.ensures ∙ ap sum c.as_slice.ensures.value)
    (c.told_sum.ensures ∙ ap sum c.as_slice-2.ensures.value)).1
