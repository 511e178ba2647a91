use Rattle.std.proofs.Common.{◌≡◌, nat_lt, [], length, set, sym, ◌∙◌, ap, arith}
use Rattle.pm_routes.specs.Routings.{Routing}
use Rattle.pm_routes.proofs.Draws.{exactly}
use Rattle.pm_routes.proofs.Rooms.{exists-here, each-has, row-set, place-room, answer-is}
use Rattle.std.proofs.lemmas.List.{get_or-set_same, length-set}
use Rattle.pm_routes.proofs.routes.Routes.count.Goals as goal

pub raise-requires : goal.raise-requires
raise-requires c =
    let low = exists-here _ _ c.args.var c.self.view_is c.requires.here in
    place-room c.self.inside.ways c.self.inside.places c.self.inside.counts.items c.args.var c.args.from c.of-place.result c.index_mut.result.now c.self.invariant low c.index_mut.ensures.value c.of-place.ensures

pub index-counts-requires : goal.index-counts-requires
index-counts-requires c =
    let low = exists-here _ _ c.args.var c.self.view_is c.requires.here in
    let each = each-has c.self.inside.ways c.self.inside.places c.self.inside.counts.items c.args.var c.self.invariant low in
    let len = c.self.inside.counts.ok.0 in
    omega (arith, each, len)

pub at-requires : goal.at-requires
at-requires c =
    let low = exists-here _ _ c.args.var c.self.view_is c.requires.here in
    let each = each-has c.self.inside.ways c.self.inside.places c.self.inside.counts.items c.args.var c.self.invariant low in
    let room = place-room c.self.inside.ways c.self.inside.places c.self.inside.counts.items c.args.var c.args.from c.of-place.result c.index_mut.result.now c.self.invariant low c.index_mut.ensures.value c.of-place.ensures in
    let row = row-set c.self.inside.counts.items c.args.var c.raise.new.self c.index-counts.result.now each c.index-counts.ensures in
    let long : length c.index-counts.result.now ≡ length c.index_mut.result.now = ap length (row ∙ c.raise.ensures) ∙ length-set c.index_mut.result.now c.of-place.result _ in
    omega (arith, room, long)

pub others-requires : goal.others-requires
others-requires c =
    let low = exists-here _ _ c.args.var c.self.view_is c.requires.here in
    let each = each-has c.self.inside.ways c.self.inside.places c.self.inside.counts.items c.args.var c.self.invariant low in
    let room = place-room c.self.inside.ways c.self.inside.places c.self.inside.counts.items c.args.var c.args.from c.of-place.result c.index_mut.result.now c.self.invariant low c.index_mut.ensures.value c.of-place.ensures in
    let row = row-set c.self.inside.counts.items c.args.var c.raise.new.self c.index-counts.result.now each c.index-counts.ensures in
    let long : length c.index-counts.result.now ≡ length c.index_mut.result.now = ap length (row ∙ c.raise.ensures) ∙ length-set c.index_mut.result.now c.of-place.result _ in
    omega (arith, room, long)

pub returns-clause-value : goal.returns-clause-value
returns-clause-value c =
    let low = exists-here _ _ c.args.var c.self.view_is c.requires.here in
    let each = each-has c.self.inside.ways c.self.inside.places c.self.inside.counts.items c.args.var c.self.invariant low in
    let row = row-set c.self.inside.counts.items c.args.var c.raise.new.self c.index-counts.result.now each c.index-counts.ensures in
    let now : Routing = record { ways = c.self.inside.ways; ports = c.self.inside.places; move_after = c.self.inside.move_after; counts = set c.self.inside.counts.items c.args.var c.raise.new.self } in
    answer-is now c.args.var c.args.from c.of-place.result c.at.result c.others.result c.index-counts.result.now _ c.is_most-is_most.result c.some_if.result
    (row ∙ sym (get_or-set_same c.self.inside.counts.items c.args.var c.raise.new.self [] each))
    c.of-place.ensures c.at.ensures c.others.ensures (ap (λ n. nat_lt c.of-place.result n) c.len.ensures) c.is_most-is_most.ensures c.some_if.ensures

pub returns-clause-exactly : goal.returns-clause-exactly
returns-clause-exactly c = exactly _ c.args.var c.args.from c.some_if.result (returns-clause-value c)
