use Rattle.std.proofs.Common.{rules}
use Rattle.pm_workers.proofs.Totals.{moved_total, added}
use Rattle.pm_workers.proofs.by_loans.run_counted.Goals as goal

pub returns-clause-made : goal.returns-clause-made
returns-clause-made g c =
    let plan = c.args.plan.now in
    let t = moved_total g.S.Station.story g.S.Station.follows plan.quota plan.count c.args.stations.now
    c.run_all.new.stations (search rules) (search rules) c.run_all.ensures in
    (added _ _ plan.quota _ _ t.0 t.1 (search rules) c.told_sum-before.ensures c.told_sum.ensures).0

pub returns-clause-most : goal.returns-clause-most
returns-clause-most g c =
    let plan = c.args.plan.now in
    let t = moved_total g.S.Station.story g.S.Station.follows plan.quota plan.count c.args.stations.now
    c.run_all.new.stations (search rules) (search rules) c.run_all.ensures in
    (added _ _ plan.quota _ _ t.0 t.1 (search rules) c.told_sum-before.ensures c.told_sum.ensures).1
