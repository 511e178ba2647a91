use Rattle.std.proofs.Common.{◌<◌, ◌≤◌, arith, length}
use Rattle.std.specs.BTreeMap.{get}
use Rattle.pm_tables.specs.Tables.{known_in}
use Rattle.pm_queries.specs.Laid.{num_cmp}
use Rattle.pm_queries.proofs.Calls.{caught-laid, caught-queries, caught-sent, past-queries, past-sent}
use Rattle.pm_queries.proofs.queries.Queries.catch_up.Goals as goal

pub returns-then-class-len-clause-queries : goal.returns-then-class-len-clause-queries
returns-then-class-len-clause-queries c =
    let past = c.if-class-len.true in
    let is = c.len.ensures in
    let len = c.self.inside.classes.ok.0 in
    let le : length c.self.inside.classes.items ≤ c.args.class = omega (arith, past, is, len) in
    past-queries c.self.inside.classes.items (get num_cmp c.self.inside.spots) c.self.invariant
    c.args.self.now c.self.view_is (known_in c.args.place c.args.class c.args.table.now) c.args.port c.args.class le

pub returns-then-class-len-clause-sent : goal.returns-then-class-len-clause-sent
returns-then-class-len-clause-sent c =
    let past = c.if-class-len.true in
    let is = c.len.ensures in
    let len = c.self.inside.classes.ok.0 in
    let le : length c.self.inside.classes.items ≤ c.args.class = omega (arith, past, is, len) in
    past-sent c.self.inside.classes.items (get num_cmp c.self.inside.spots) c.self.invariant c.args.self.now
    c.self.view_is (known_in c.args.place c.args.class c.args.table.now) c.args.port c.args.class c.args.out.now le

pub invariant_of-self : goal.invariant_of-self
invariant_of-self c =
    let more = c.if-class-len.false in
    let is = c.len.ensures in
    let len = c.self.inside.classes.ok.0 in
    let low : c.args.class < length c.self.inside.classes.items = omega (arith, more, is, len) in
    caught-laid c.self.inside.classes.items (get num_cmp c.self.inside.spots) c.self.invariant
    c.args.self.now c.self.view_is (known_in c.args.place c.args.class c.args.table.now) c.args.port c.args.class
    low c.index_mut-rows.result.now c.index_mut-rows.ensures.value c.catch_up.new.self c.catch_up.ensures.same

pub returns-clause-queries : goal.returns-clause-queries
returns-clause-queries c =
    let more = c.if-class-len.false in
    let is = c.len.ensures in
    let len = c.self.inside.classes.ok.0 in
    let low : c.args.class < length c.self.inside.classes.items = omega (arith, more, is, len) in
    caught-queries c.self.inside.classes.items (get num_cmp c.self.inside.spots) c.self.invariant
    c.args.self.now c.self.view_is (known_in c.args.place c.args.class c.args.table.now) c.args.port c.args.class
    low c.index_mut-rows.result.now
    c.index_mut-rows.ensures.value c.catch_up.result c.catch_up.new.self c.catch_up.ensures.rows

pub returns-clause-sent : goal.returns-clause-sent
returns-clause-sent c =
    let more = c.if-class-len.false in
    let is = c.len.ensures in
    let len = c.self.inside.classes.ok.0 in
    let low : c.args.class < length c.self.inside.classes.items = omega (arith, more, is, len) in
    caught-sent c.self.inside.classes.items (get num_cmp c.self.inside.spots) c.self.invariant
    c.args.self.now c.self.view_is (known_in c.args.place c.args.class c.args.table.now) c.args.port c.args.class
    low c.index_mut-rows.result.now
    c.index_mut-rows.ensures.value c.catch_up.result c.args.out.now c.catch_up.new.out c.catch_up.ensures.out
