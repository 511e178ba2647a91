use Rattle.std.proofs.Common.{arith, sym}
use Rattle.std.specs.BTreeMap.{get}
use Rattle.pm_queries.specs.Laid.{num_cmp}
use Rattle.pm_queries.proofs.Calls.{none-queries, none-sent, spot-laid, spot-low, spot-order, spot-queries, spot-sent, spot-there}
use Rattle.pm_queries.proofs.queries.Queries.finish.Goals as goal

pub returns-in-None-clause-queries : goal.returns-in-None-clause-queries
returns-in-None-clause-queries c =
    none-queries c.self.inside.classes.items (get num_cmp c.self.inside.spots)
    c.self.invariant c.args.self.now c.self.view_is c.args.num c.args.port (sym c.in-None.ensures.value)

pub returns-in-None-clause-sent : goal.returns-in-None-clause-sent
returns-in-None-clause-sent c =
    none-sent c.self.inside.classes.items (get num_cmp c.self.inside.spots)
    c.self.invariant c.args.self.now c.self.view_is c.args.num c.args.port (sym c.in-None.ensures.value)

pub index_mut-rows-requires : goal.index_mut-rows-requires
index_mut-rows-requires c =
    let low = spot-low c.self.inside.classes.items (get num_cmp c.self.inside.spots) c.self.invariant
    c.args.self.now c.self.view_is c.args.num c.args.port c.in-Some.spot.now (sym c.in-Some.ensures.value) in
    let len = c.self.inside.classes.ok.0 in
    omega (arith, low, len)

pub finish-requires-clause-order : goal.finish-requires-clause-order
finish-requires-clause-order c =
    spot-order c.self.inside.classes.items (get num_cmp c.self.inside.spots) c.self.invariant
    c.args.self.now c.self.view_is c.args.num c.args.port c.in-Some.spot.now (sym c.in-Some.ensures.value)
    c.index_mut-rows.result.now c.index_mut-rows.ensures.value

pub finish-requires-clause-there : goal.finish-requires-clause-there
finish-requires-clause-there c =
    spot-there c.self.inside.classes.items (get num_cmp c.self.inside.spots) c.self.invariant
    c.args.self.now c.self.view_is c.args.num c.args.port c.in-Some.spot.now (sym c.in-Some.ensures.value)
    c.index_mut-rows.result.now c.index_mut-rows.ensures.value

pub invariant_of-self : goal.invariant_of-self
invariant_of-self c =
    spot-laid c.self.inside.classes.items (get num_cmp c.self.inside.spots) c.self.invariant
    c.args.self.now c.self.view_is c.args.num c.args.port c.in-Some.spot.now (sym c.in-Some.ensures.value)
    c.index_mut-rows.result.now c.index_mut-rows.ensures.value c.finish.new.self c.finish.ensures.same

pub returns-clause-queries : goal.returns-clause-queries
returns-clause-queries c =
    spot-queries c.self.inside.classes.items (get num_cmp c.self.inside.spots) c.self.invariant
    c.args.self.now c.self.view_is c.args.num c.args.port c.in-Some.spot.now (sym c.in-Some.ensures.value)
    c.index_mut-rows.result.now c.index_mut-rows.ensures.value c.finish.new.self c.finish.ensures.rows

pub returns-clause-sent : goal.returns-clause-sent
returns-clause-sent c =
    spot-sent c.self.inside.classes.items (get num_cmp c.self.inside.spots) c.self.invariant
    c.args.self.now c.self.view_is c.args.num c.args.port c.in-Some.spot.now (sym c.in-Some.ensures.value)
    c.index_mut-rows.result.now c.index_mut-rows.ensures.value _ c.finish.ensures.sent
