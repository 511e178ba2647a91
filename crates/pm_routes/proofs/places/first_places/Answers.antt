use Rattle.std.proofs.Common.{◌≡◌, ◌+◌, ◌-◌, ◌<◌, length, drop, subst, arith}
use Rattle.std.specs.Option.{unwrap_or}
use Rattle.std.specs.Ordering.{nat_cmp}
use Rattle.std.specs.BTreeMap.{get}
use Rattle.pm_routes.specs.Routings.{place_of}
use Rattle.pm_routes.proofs.Finds.{first-at}
use Rattle.pm_routes.proofs.places.first_places.Goals as goal

pub loop-place-preserved : goal.loop-place-preserved
loop-place-preserved c = λ port.
    let more = c.loop-place-test.true in
    let most = c.loop-place.auto.place in
    let low : c.loop-place.place - 1 < length c.args.ports.now = omega (arith, more, most) in
    let back : c.loop-place.place ≡ c.loop-place.place - 1 + 1 = omega (arith, more, most) in
    first-at c.args.ports.now (c.loop-place.place - 1) (length c.args.ports.now) port (get nat_cmp c.insert.new.self port) (get nat_cmp c.loop-place.first port) _ low
    (c.in_ok-insert.ensures.updates.0 port)
    (subst (λ m. unwrap_or (get nat_cmp c.loop-place.first port) (length c.args.ports.now) ≡ m + place_of (drop m c.args.ports.now) port) back (c.loop-place.invariant port))
